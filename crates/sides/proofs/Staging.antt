-- A call leaves a shard sound, and stages after what is staged.
use Rattle.std.proofs.Common.{◌≡◌, ◌↔◌, ◌≤◌, ◌<◌, ◌+◌, ⊎_elim, inl, inr, true, false, true≢false, ℕ, List, [], ◌∷◌, length, Result, Option, Some, Ok, Err, refl, sym, ◌∙◌, ap, subst}
use Rattle.std.proofs.lemmas.Bool.{cases_lt, false_from_ne_true}
use Rattle.std.proofs.lemmas.List.{append-nil}
use mathlib.Core.List.{IsPrefix}
use Rattle.sides.proofs.Words.{Answered, AnsweredIn, BatchValue, Collect, DropWrite, from_shard, HeadsValue, IntentValue, Learn, NodeView, Read, ReadForCheck, Record, Refusal, refused, Reply, Shard, shard, ShardAnswers, ShardCall, ShardReply, ShardView, StagePrepare, State, VerdictValue}
use Rattle.records.specs.declared.record.Record.TheVariants.{Dropped}
use Rattle.records.specs.Replays.{find_in_doubt}
use Rattle.decisions.specs.Values.{TicketValue}
use Rattle.shard.specs.Shards.{IsUp, Stages, memory}
use Rattle.calls.specs.declared.call.ShardCall.TheVariants.{Checkpoint, Flush, InDoubt, Learned, Settle, Vote}
use Rattle.calls.specs.declared.reply.ShardReply.TheVariants as told_by
use Rattle.calls.specs.ShardAnswers.{CheckpointAnswers, CollectAnswers, DropAnswers, FlushAnswers, LearnAnswers, PrepareAnswers}
use Rattle.sides.specs.Lending.{IsSoundIn, IsSoundShard, StagesMoreIn}
use Rattle.sides.specs.Sides.{is_flush}
use Rattle.tuples.proofs.Options.{none_or_some}
use Rattle.journal.proofs.Staged.{room_or_none}

module _ {D : Type 0} (state : D → State) (honest : D → Type 0) where
  -- it is sound, and what was staged is staged before anything else
  pub record GoesOnFrom (old new : ShardView D) : Type 0 where
    pub sound : IsSoundShard state honest new
    pub durable : new.durable ≡ old.durable
    pub staged : IsPrefix old.staged new.staged

  -- Given a shard before and after a call
  module _ (old new : ShardView D) (sound : IsSoundShard state honest old) where
    abbrev Goes : Type 0
    Goes = GoesOnFrom old new

    unchanged : new ≡ old → Goes
    unchanged same = subst (λ (v : ShardView D). GoesOnFrom old v) (sym same) (record { sound = sound; durable = refl; staged = ([], append-nil old.staged) })

    staged_one : (r : Record) → Stages old r new → IsUp state honest new → Goes
    staged_one r stages up = record {
      sound = record { running = λ is_up. up; honest_a = up.honest_a; honest_b = up.honest_b };
      durable = ap (λ (v : ShardView D). v.durable) stages;
      staged = (r ∷ [], sym (ap (λ (v : ShardView D). v.staged) stages));
    }

    learned : (b : BatchValue) (r : Result _ Refusal) → LearnAnswers state honest old b r new → Goes
    learned b (Ok is_known) a =
        let call = a.ok (sound.running (false_from_ne_true old.is_down (λ down. cc (a.down.1 down)))) in
        ⊎_elim
        (λ (ahead : (memory old).learned < b.from). unchanged (call.ahead ahead).1)
        (λ (low_enough : b.from ≤ (memory old).learned). ⊎_elim
        (λ (more : (memory old).learned < b.from + length b.writes). let n = call.more (record { from = low_enough; to = more }) in staged_one _ n.1 n.2)
        (λ (all : b.from + length b.writes ≤ (memory old).learned). unchanged (call.known all).1)
        (cases_lt (memory old).learned (b.from + length b.writes)))
        (cases_lt (memory old).learned b.from)
    learned b (Err e) a = unchanged a.err.0

    prepared : (intent : IntentValue) (r : Result TicketValue Refusal) → PrepareAnswers state honest old intent r new → Goes
    prepared intent (Ok t) a = let call = a.ok (sound.running (false_from_ne_true old.is_down (λ down. cc (a.down.1 down)))) in staged_one _ call.stages call.up
    prepared intent (Err e) a = unchanged a.err.0

    dropped : (verdict : VerdictValue) (r : Result (Unit {0}) Refusal) → DropAnswers state honest old verdict r new → Goes
    dropped verdict (Ok done) a =
        let call = a.drops (sound.running (false_from_ne_true old.is_down (λ down. cc (a.down.1 down)))) in
        ⊎_elim
        (λ none. unchanged (call.not_here none))
        (λ some. ⊎_elim
        (λ full. unchanged (call.full full))
        (λ room. let d = call.dropped some room in staged_one _ d.0 d.1)
        (room_or_none old.staged (Dropped verdict.id)))
        (none_or_some (find_in_doubt verdict.id (memory old).in_doubt))
    dropped verdict (Err e) a = unchanged a.err.1

    collected : (heads : HeadsValue) (r : Result (Unit {0}) Refusal) → CollectAnswers state honest old heads r new → Goes
    collected heads (Ok done) a =
        let call = a.ok (sound.running (false_from_ne_true old.is_down (λ down. cc (a.down.1 down)))) in
        ⊎_elim
        (λ (above : (memory old).horizon < heads.horizon). ⊎_elim
        (λ (far : (memory old).learned < heads.horizon). unchanged (call.nothing (inl far)))
        (λ (within : heads.horizon ≤ (memory old).learned). let c = call.raised above within in staged_one _ c.0 c.1)
        (cases_lt (memory old).learned heads.horizon))
        (λ (known : heads.horizon ≤ (memory old).horizon). unchanged (call.nothing (inr known)))
        (cases_lt (memory old).horizon heads.horizon)
    collected heads (Err e) a = unchanged a.err.0

    is_up : IsUp state honest new → IsSoundShard state honest new
    is_up up = record { running = λ still. up; honest_a = up.honest_a; honest_b = up.honest_b }

    is_down : new.is_down ≡ true → (honest old.a ↔ honest new.a) × (honest old.b ↔ honest new.b) → IsSoundShard state honest new
    is_down down still_honest = record { running = λ up. absurd (true≢false (sym down ∙ up)); honest_a = still_honest.0.0 sound.honest_a; honest_b = still_honest.1.0 sound.honest_b }

    flushed : (moment : D → ℕ) (left_since : D → ℕ → List ℕ → Type 0) (r : Result (Unit {0}) Refusal) → FlushAnswers state honest moment left_since old r new → IsSoundShard state honest new
    flushed moment left_since (Ok done) a = is_up (a.ok (sound.running (false_from_ne_true old.is_down (λ down. cc (a.down down))))).up
    flushed moment left_since (Err e) a = is_down a.err.1 a.still_honest

    checkpointed : (moment : D → ℕ) (left_since : D → ℕ → List ℕ → Type 0) (r : Result (Unit {0}) Refusal) → CheckpointAnswers state honest moment left_since old r new → IsSoundShard state honest new
    checkpointed moment left_since (Ok done) a = is_up (a.ok (sound.running (false_from_ne_true old.is_down (λ down. cc (a.down down).0)))).up
    checkpointed moment left_since (Err e) a = ⊎_elim
        (λ failed. is_down failed.1 a.still_honest)
        (λ same. subst (IsSoundShard state honest) (sym same.0) sound)
        a.err

  module _ (moment : D → ℕ) (left_since : D → ℕ → List ℕ → Type 0) where
    goes_on : (old new : ShardView D) (call : ShardCall) (reply : ShardReply) → is_flush call ≡ false → IsSoundShard state honest old → ShardAnswers state honest moment left_since old call reply new → GoesOnFrom old new
    goes_on old new Learned (told_by.Learned r) calm sound a = unchanged old new sound a.0
    goes_on old new (Learn b) (told_by.Learn back r) calm sound a = learned old new sound b r a.1
    goes_on old new (StagePrepare intent) (told_by.StagePrepare back r) calm sound a = prepared old new sound intent r a.1
    goes_on old new (Vote ticket) (told_by.Vote r) calm sound a = unchanged old new sound a.0
    goes_on old new (DropWrite verdict held) (told_by.DropWrite back r) calm sound a = dropped old new sound verdict r a.1
    goes_on old new InDoubt (told_by.InDoubt r) calm sound a = unchanged old new sound a.0
    goes_on old new (Read place set) (told_by.Read back r) calm sound a = unchanged old new sound a.0
    goes_on old new (ReadForCheck place x u) (told_by.ReadForCheck back_x back_u r) calm sound a = unchanged old new sound a.0
    goes_on old new Settle (told_by.Settle r) calm sound a = unchanged old new sound a.0
    goes_on old new (Collect heads) (told_by.Collect back r) calm sound a = collected old new sound heads r a.1
    goes_on old new Flush reply calm sound a = absurd (cc calm)
    goes_on old new Checkpoint reply calm sound a = absurd (cc calm)
    goes_on old new call reply calm sound a = absurd a

    sound_after : (old new : ShardView D) (call : ShardCall) (reply : ShardReply) → IsSoundShard state honest old → ShardAnswers state honest moment left_since old call reply new → IsSoundShard state honest new
    sound_after old new Flush (told_by.Flush r) sound a = flushed old new sound moment left_since r a
    sound_after old new Flush reply sound a = absurd a
    sound_after old new Checkpoint (told_by.Checkpoint r) sound a = checkpointed old new sound moment left_since r a
    sound_after old new Checkpoint reply sound a = absurd a
    sound_after old new call reply sound a = (goes_on old new call reply refl sound a).sound

    -- Given a shard's number, and a call of it
    module _ (s : ℕ) (call : ShardCall) where
      sound_node : (old : NodeView D) (reply : Reply) (new : NodeView D) → IsSoundIn state honest (Some old) → Answered state honest moment left_since old (Shard s call) reply new → IsSoundIn state honest (Some new)
      sound_node (shard old) (from_shard reply) (shard new) sound a = sound_after old new call reply sound a
      sound_node (refused e x y) reply new sound a = subst (λ (n : NodeView D). IsSoundIn state honest (Some n)) (sym a.0) sound
      sound_node old reply new sound a = absurd a

      -- a call leaves the shard sound
      pub shard_stays_sound : (old new : Option (NodeView D)) (reply : Reply) → IsSoundIn state honest old → AnsweredIn state honest moment left_since s old call reply new → IsSoundIn state honest new
      shard_stays_sound (Some old) (Some new) reply sound a = sound_node old reply new sound a
      shard_stays_sound old new reply sound a = absurd a

      more_of_node : (old : NodeView D) (reply : Reply) (new : NodeView D) → is_flush call ≡ false → IsSoundIn state honest (Some old) → Answered state honest moment left_since old (Shard s call) reply new → StagesMoreIn (Some old) (Some new)
      more_of_node (shard old) (from_shard reply) (shard new) calm sound a = let goes = goes_on old new call reply calm sound a in (goes.durable, goes.staged)
      more_of_node (refused e x y) reply new calm sound a = tt
      more_of_node old reply new calm sound a = absurd a

      -- one that needs no devices stages after what is staged
      pub stages_more : (old new : Option (NodeView D)) (reply : Reply) → is_flush call ≡ false → IsSoundIn state honest old → AnsweredIn state honest moment left_since s old call reply new → StagesMoreIn old new
      stages_more (Some old) (Some new) reply calm sound a = more_of_node old reply new calm sound a
      stages_more old new reply calm sound a = absurd a
