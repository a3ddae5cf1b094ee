-- The calls of a shard under its lock leave it tied.
use Rattle.std.proofs.Common.{◌≡◌, ◌≤◌, ⊎_elim, inl, inr, ◌⊎◌, ℕ, Bool, true, false, List, [], Result, Option, Some, None, Ok, Err, refl, sym, subst, arith}
use Rattle.std.proofs.lemmas.Bool.{false_from_ne_true}
use Rattle.std.proofs.lemmas.List.{append-nil}
use Rattle.sides.proofs.Words.{Answered, AnsweredIn, BatchValue, Collect, DropWrite, Entry, from_shard, HeadsValue, IntentValue, IsOpenedShardTied, IsShardTied, IsTiedIn, Known, Learn, left, NodeView, Refusal, refused, Reply, Shard, shard, shard_tied_up_is_tied, ShardAnswers, ShardCall, ShardReply, ShardView, Read, ReadForCheck, StagePrepare, State, VerdictValue}
use Rattle.decisions.specs.Values.{TicketValue}
use Rattle.calls.specs.declared.call.ShardCall.TheVariants.{Checkpoint, Flush, InDoubt, Learned, Settle, Vote}
use Rattle.calls.specs.declared.reply.ShardReply.TheVariants as told_by
use Rattle.calls.specs.ShardAnswers.{CheckpointAnswers, CollectAnswers, DropAnswers, FlushAnswers, LearnAnswers, PrepareAnswers}
use Rattle.ties.specs.TellingLaws.{IsBatchOf}
use Rattle.ties.proofs.ShardCalls.{collections_stay_tied, drops_stay_tied, learnings_stay_tied, prepares_stay_tied, shard_flushes_stay_tied}
use Rattle.ties.proofs.ShardOpening.{failed_shard_flushes_stay_tied, longer_lists_stay_tied}
use Rattle.ties.proofs.ShardPoints.{failed_shard_checkpoints_stay_tied, shard_checkpoints_stay_tied}
use Rattle.ties.proofs.Telling.{batch_longer}
use Rattle.sides.specs.Sides.{HandsSeen, IsLater, MeetFor, hands_over}

pub up_or_down : (b : Bool) → (b ≡ false) ⊎ (b ≡ true)
up_or_down false = inl refl
up_or_down true = inr refl

module _ {D : Type 0} (state : D → State) (honest : D → Type 0) (store shards s : ℕ) where
  -- a pass that knows more is as good
  pub later_is_tied : (node : Option (NodeView D)) (old new : Known Entry) → IsTiedIn state honest store shards s node old → IsLater old new → IsTiedIn state honest store shards s node new
  later_is_tied (Some node) old new tied later = longer_lists_stay_tied state honest store shards s node old.seen new.seen old.horizon new.horizon tied later.seen later.horizon
  later_is_tied None old new tied later = absurd tied

  -- Given a shard before and after a call
  module _ (old new : ShardView D) (seen : List Entry) (low : ℕ) (tied : IsOpenedShardTied state honest store shards s old seen low) where
    unchanged : new ≡ old → IsOpenedShardTied state honest store shards s new seen low
    unchanged same = subst (λ (v : ShardView D). IsOpenedShardTied state honest store shards s v seen low) (sym same) tied

    learned : (b : BatchValue) (r : Result Bool Refusal) → IsBatchOf seen b → LearnAnswers state honest old b r new → IsOpenedShardTied state honest store shards s new seen low
    learned b (Ok is_known) of_list a =
        let up = tied.up (false_from_ne_true old.is_down (λ down. cc (a.down.1 down))) in
        shard_tied_up_is_tied state honest store shards s new seen low (learnings_stay_tied state honest store shards s old new b is_known seen low up of_list (a.ok up.up)).0
    learned b (Err e) of_list a = unchanged a.err.0

    prepared : (intent : IntentValue) (r : Result TicketValue Refusal) → PrepareAnswers state honest old intent r new → IsOpenedShardTied state honest store shards s new seen low
    prepared intent (Ok t) a =
        let up = tied.up (false_from_ne_true old.is_down (λ down. cc (a.down.1 down))) in
        shard_tied_up_is_tied state honest store shards s new seen low (prepares_stay_tied state honest store shards s old new intent.write t seen low up (a.ok up.up))
    prepared intent (Err e) a = unchanged a.err.0

    dropped : (verdict : VerdictValue) (r : Result (Unit {0}) Refusal) → DropAnswers state honest old verdict r new → IsOpenedShardTied state honest store shards s new seen low
    dropped verdict (Ok done) a =
        let up = tied.up (false_from_ne_true old.is_down (λ down. cc (a.down.1 down))) in
        shard_tied_up_is_tied state honest store shards s new seen low (drops_stay_tied state honest store shards s old new verdict.id seen low up (a.drops up.up))
    dropped verdict (Err e) a = unchanged a.err.1

    collected : (heads : HeadsValue) (r : Result (Unit {0}) Refusal) → heads.horizon ≤ low → CollectAnswers state honest old heads r new → IsOpenedShardTied state honest store shards s new seen low
    collected heads (Ok done) le a =
        let up = tied.up (false_from_ne_true old.is_down (λ down. cc (a.down.1 down))) in
        shard_tied_up_is_tied state honest store shards s new seen low (collections_stay_tied state honest store shards s old new heads.horizon seen low up le (a.ok up.up))
    collected heads (Err e) le a = unchanged a.err.0

    flushed : (moment : D → ℕ) (left_since : D → ℕ → List ℕ → Type 0) → ((d : D) (t : ℕ) (c : List ℕ) → honest d → t ≤ moment d → left (state d) c → left_since d t c)
        → (r : Result (Unit {0}) Refusal) → FlushAnswers state honest moment left_since old r new → IsOpenedShardTied state honest store shards s new seen low
    flushed moment left_since counts_now (Ok done) a =
        let up = tied.up (false_from_ne_true old.is_down (λ down. cc (a.down down))) in
        shard_tied_up_is_tied state honest store shards s new seen low (shard_flushes_stay_tied state honest store shards s old new seen low up (a.ok up.up) a.me)
    flushed moment left_since counts_now (Err e) a = ⊎_elim
        (λ is_up.
        let up = tied.up is_up in
        failed_shard_flushes_stay_tied state honest moment left_since counts_now store shards s old new seen low up a.me (a.still_honest.0.0 up.up.honest_a) (a.still_honest.1.0 up.up.honest_b) a.err.1 (a.any_moment up.up))
        (λ is_down. unchanged (a.quiet (inl is_down)))
        (up_or_down old.is_down)

    checkpointed : (moment : D → ℕ) (left_since : D → ℕ → List ℕ → Type 0) → ((d : D) (t : ℕ) (c : List ℕ) → honest d → t ≤ moment d → left (state d) c → left_since d t c)
        → (r : Result (Unit {0}) Refusal) → CheckpointAnswers state honest moment left_since old r new → IsOpenedShardTied state honest store shards s new seen low
    checkpointed moment left_since counts_now (Ok done) a =
        let up = tied.up (false_from_ne_true old.is_down (λ down. cc (a.down down).0)) in
        shard_tied_up_is_tied state honest store shards s new seen low (shard_checkpoints_stay_tied state honest store shards s old new seen low up (a.ok up.up) a.me)
    checkpointed moment left_since counts_now (Err e) a = ⊎_elim
        (λ is_up.
        let up = tied.up is_up in
        ⊎_elim
        (λ failed. failed_shard_checkpoints_stay_tied state honest moment left_since counts_now store shards s old new seen low up a.me (a.still_honest.0.0 up.up.honest_a) (a.still_honest.1.0 up.up.honest_b) failed.1 (a.any_moment up.up))
        (λ same. unchanged same.0)
        a.err)
        (λ is_down. unchanged (a.down is_down).1)
        (up_or_down old.is_down)

-- Given also what a device tells of the moments of a call, and that what a stop may leave now is among what it may leave since an earlier moment
module _ {D : Type 0} (state : D → State) (honest : D → Type 0) (moment : D → ℕ) (left_since : D → ℕ → List ℕ → Type 0) (counts_now : (d : D) (t : ℕ) (c : List ℕ) → honest d → t ≤ moment d → left (state d) c → left_since d t c)
    (store shards s : ℕ) where
  shard_stays : (call : ShardCall) (pass : Known Entry) → HandsSeen pass call → (old new : ShardView D) (reply : ShardReply) → IsOpenedShardTied state honest store shards s old pass.seen pass.horizon
      → ShardAnswers state honest moment left_since old call reply new → IsOpenedShardTied state honest store shards s new pass.seen pass.horizon
  shard_stays Learned pass hands old new (told_by.Learned r) tied a = unchanged state honest store shards s old new pass.seen pass.horizon tied a.0
  shard_stays (Learn b) pass hands old new (told_by.Learn back r) tied a = learned state honest store shards s old new pass.seen pass.horizon tied b r hands a.1
  shard_stays (StagePrepare intent) pass hands old new (told_by.StagePrepare back r) tied a = prepared state honest store shards s old new pass.seen pass.horizon tied intent r a.1
  shard_stays (Vote ticket) pass hands old new (told_by.Vote r) tied a = unchanged state honest store shards s old new pass.seen pass.horizon tied a.0
  shard_stays (DropWrite verdict held) pass hands old new (told_by.DropWrite back r) tied a = dropped state honest store shards s old new pass.seen pass.horizon tied verdict r a.1
  shard_stays InDoubt pass hands old new (told_by.InDoubt r) tied a = unchanged state honest store shards s old new pass.seen pass.horizon tied a.0
  shard_stays (Read place set) pass hands old new (told_by.Read back r) tied a = unchanged state honest store shards s old new pass.seen pass.horizon tied a.0
  shard_stays (ReadForCheck place x u) pass hands old new (told_by.ReadForCheck back_x back_u r) tied a = unchanged state honest store shards s old new pass.seen pass.horizon tied a.0
  shard_stays Settle pass hands old new (told_by.Settle r) tied a = unchanged state honest store shards s old new pass.seen pass.horizon tied a.0
  shard_stays (Collect heads) pass hands old new (told_by.Collect back r) tied a = collected state honest store shards s old new pass.seen pass.horizon tied heads r hands a.1
  shard_stays Flush pass hands old new (told_by.Flush r) tied a = flushed state honest store shards s old new pass.seen pass.horizon tied moment left_since counts_now r a
  shard_stays Checkpoint pass hands old new (told_by.Checkpoint r) tied a = checkpointed state honest store shards s old new pass.seen pass.horizon tied moment left_since counts_now r a
  shard_stays call pass hands old new reply tied a = absurd a

  node_stays : (call : ShardCall) (pass : Known Entry) → HandsSeen pass call → (old : NodeView D) (reply : Reply) (new : NodeView D) → IsShardTied state honest store shards s old pass.seen pass.horizon
      → Answered state honest moment left_since old (Shard s call) reply new → IsShardTied state honest store shards s new pass.seen pass.horizon
  node_stays call pass hands (shard old) (from_shard reply) (shard new) tied a = shard_stays call pass hands old new reply tied a
  node_stays call pass hands (refused e x y) reply new tied a = subst (λ (n : NodeView D). IsShardTied state honest store shards s n pass.seen pass.horizon) (sym a.0) tied
  node_stays call pass hands old reply new tied a = absurd a

  -- a call leaves what lies under the lock tied to what the pass beside it has seen
  pub call_stays : (call : ShardCall) (pass : Known Entry) → HandsSeen pass call → (old new : Option (NodeView D)) (reply : Reply) → IsTiedIn state honest store shards s old pass
      → AnsweredIn state honest moment left_since s old call reply new → IsTiedIn state honest store shards s new pass
  call_stays call pass hands (Some old) (Some new) reply tied a = node_stays call pass hands old reply new tied a
  call_stays call pass hands old new reply tied a = absurd a

-- what is handed over the shard's pass has seen once it has met the caller's
pub seen_then : (one other now_one now_other : Known Entry) (call : ShardCall) → MeetFor (hands_over call) one other now_one now_other → HandsSeen other call → HandsSeen now_one call
seen_then one other now_one now_other (Learn batch) met hands = batch_longer other.seen now_one.seen batch met.0.second.seen hands
seen_then one other now_one now_other (Collect heads) met hands = let le = met.0.second.horizon in omega (arith, le, hands)
seen_then one other now_one now_other call met hands = tt

later_self : (pass : Known Entry) → IsLater pass pass
later_self pass = record { table = refl; seen = ([], append-nil pass.seen); horizon = omega arith }

-- and both know what they knew
pub met_later : (is_of_list : Bool) (one other now_one now_other : Known Entry) → MeetFor is_of_list one other now_one now_other → IsLater one now_one × IsLater other now_other
met_later true one other now_one now_other met = (met.0.first, met.1.second)
met_later false one other now_one now_other met = (subst (IsLater one) (sym met.0) (later_self one), subst (IsLater other) (sym met.1) (later_self other))
