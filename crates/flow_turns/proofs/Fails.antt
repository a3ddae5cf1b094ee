-- A node that goes down in a call: it was flushed, and a device of it has the cause.
use Rattle.std.proofs.Common.{◌≡◌, ◌≢◌, ◌⊎◌, inl, inr, ⊎_elim, Bool, true, false, ℕ, List, [], Result, Ok, Err, refl, sym, ◌∙◌, ap, if◌then◌else◌}
use Rattle.std.specs.Result.{OnOk, OnErr, IfErr, IsErrOf}
use Rattle.flow_turns.proofs.CallWords.{Answered, Coordinator, CoordinatorCall, CoordinatorView, Down, Full, HasDeviceCause, IsNode, IsRunning, IsUp, Moment, NoMemory, NodeCall, NodeName, NodeView, NotRaised, Record, Refusal, Reply, SettledValue, Shard, ShardCall, ShardView, StandsOver, State, Stays, Store, VerdictValue, coordinator, down, from_coordinator, from_shard, shard, shown, up}
use Rattle.tuples.specs.Writes.{WriteValue}
use Rattle.journal.specs.Ahead.{HasPointCause}
use Rattle.journal.specs.Records.{HasCause, View}
use Rattle.decisions.specs.Checkpoints.{next_checkpoint}
use Rattle.decisions.specs.Coordinators.{coordinator_journal}
use Rattle.decisions.specs.Standing.{DecidedValue}
use Rattle.decisions.specs.Values.{IntentValue, VoteValue}
use Rattle.coordinator.specs.declared.decided.NotDecided.{NotDecided}
use Rattle.shard.specs.Checkpoints.{ChecksPointAt}
use Rattle.shard.specs.Shards.{journal_of}
use Rattle.calls.specs.Asking.{CoordinatorAnswers, ShardAnswers}
use Rattle.calls.specs.CoordinatorAnswers.{AbortAnswers, BeginAnswers, CheckpointAnswers, DecideAnswers, RaiseAnswers}
use Rattle.calls.specs.ShardAnswers as by_shard
use Rattle.calls.specs.Views as views
use Rattle.calls.specs.declared.call.CoordinatorCall.TheVariants.{Begin, Heads, Batch, Decide, Outcome, Abort, Inquire, Raise, Flush, Checkpoint}
use Rattle.calls.specs.declared.call.ShardCall.TheVariants.{Learned, Learn, StagePrepare, Vote, DropWrite, InDoubt, Read, ReadForCheck, Settle, Collect, Flush as flush_shard, Checkpoint as checkpoint_shard}
use Rattle.calls.specs.declared.reply.CoordinatorReply.{CoordinatorReply}
use Rattle.calls.specs.declared.reply.CoordinatorReply.TheVariants as told
use Rattle.calls.specs.declared.reply.ShardReply.{ShardReply}
use Rattle.calls.specs.declared.reply.ShardReply.TheVariants as told_by
use Rattle.turns.proofs.Rooms.{failed_points_have_cause}
use Rattle.flow_turns.specs.CallLaws.{FailedCallsHaveCause}
use Rattle.flow_turns.proofs.Standing.{runs_now, shard_is_up}

-- a node is shown to be down only if it is
is_down_of : (b : Bool) (durable staged : List Record) → (if b then down else up durable staged) ≡ down → b ≡ true
is_down_of true durable staged is = refl
is_down_of false durable staged is = absurd cc

is_up_of : (b : Bool) (durable staged : List Record) → (if b then down else up durable staged) ≢ down → b ≡ false
is_up_of true durable staged not_down = absurd (not_down refl)
is_up_of false durable staged not_down = refl

-- what was up and is as it was is not down
stays_up : (was is : Bool) → was ≡ false → is ≡ was → is ≡ true → ⊥
stays_up was is was_up same gone = let both : true ≡ false = sym gone ∙ same ∙ was_up in absurd cc

-- what a flush that failed has as a cause, a checkpoint has
flush_cause : {D : Type 0} (state : D → State) (honest : D → Type 0) (old new : View D) → HasCause state honest old new → HasPointCause state honest old new
flush_cause state honest old new cause = ⊎_elim (λ of_a. inl of_a) (λ rest. inr (⊎_elim (λ of_b. inl of_b) (λ lacks. inr (inl lacks)) rest)) cause

-- a flush that left down what was up has its cause
flushed : (P Q : Type 0) (was is : Bool) (r : Result (Unit {0}) Refusal) → was ≡ false → is ≡ true → OnOk r ((was ≡ false) × (is ≡ false) × P) → OnErr r ((was ≡ true) ⊎ Q) → Q
flushed P Q was is (Ok done) was_up gone ok err = let both : true ≡ false = sym gone ∙ ok.1 in absurd cc
flushed P Q was is (Err e) was_up gone ok err = elim err [ inl before ↦ (let both : true ≡ false = sym before ∙ was_up in absurd cc) | inr cause ↦ cause ]

-- and so has a checkpoint
checkpointed : (A : Type 0) (P : Refusal → Type 0) (Q : Type 0) (was is : Bool) (r : Result (Unit {0}) Refusal) → was ≡ false → is ≡ true → OnOk r (is ≡ false)
    → IfErr r (λ e. ((e ≡ Down) × (is ≡ true)) ⊎ (A × P e)) → (A → is ≡ was) → (IsErrOf r Down → (was ≡ true) ⊎ Q) → Q
checkpointed A P Q was is (Ok done) was_up gone ok err same cause = let both : true ≡ false = sym gone ∙ ok in absurd cc
checkpointed A P Q was is (Err e) was_up gone ok err same cause = elim err [
  | inl failed ↦ elim (cause (ap (λ (x : Refusal). Err x) failed.0)) [ inl before ↦ (let both : true ≡ false = sym before ∙ was_up in absurd cc) | inr has ↦ has ]
  | inr other ↦ absurd (stays_up was is was_up (same other.0) gone)
]

module _ {D : Type 0} (state : D → State) (honest : D → Type 0) where
  begun : (v w : CoordinatorView D) (write : WriteValue) (r : Result IntentValue Refusal) → IsRunning state honest v → BeginAnswers state honest v write r w → w.is_down ≡ v.is_down
  begun v w write (Ok i) runs a = ap (λ (x : CoordinatorView D). x.is_down) ((a.ok runs).0.new_is)
  begun v w write (Err e) runs a = ap (λ (x : CoordinatorView D). x.is_down) (a.err.0)

  decided : (v w : CoordinatorView D) (intent : IntentValue) (votes : List VoteValue) (r : Result DecidedValue NotDecided) → IsRunning state honest v
      → DecideAnswers state honest v intent votes r w → w.is_down ≡ v.is_down
  decided v w intent votes (Ok d) runs a = ap (λ (x : CoordinatorView D). x.is_down) ((a.ok runs).0.new_is)
  decided v w intent votes (Err e) runs a = ap (λ (x : CoordinatorView D). x.is_down) a.same

  aborted : (v w : CoordinatorView D) (intent : IntentValue) (r : Result VerdictValue Refusal) → IsRunning state honest v → AbortAnswers state honest v intent r w → w.is_down ≡ v.is_down
  aborted v w intent (Ok verdict) runs a = ap (λ (x : CoordinatorView D). x.is_down) ((a.ok runs).1.new_is)
  aborted v w intent (Err e) runs a = ap (λ (x : CoordinatorView D). x.is_down) (a.err.0)

  raised : (v w : CoordinatorView D) (place : ℕ) (settled : List SettledValue) (r : Result (Unit {0}) NotRaised) → IsRunning state honest v
      → RaiseAnswers state honest v place settled r w → w.is_down ≡ v.is_down
  raised v w place settled (Ok done) runs a = elim ((a.ok runs).0.new_is) [ inl one ↦ ap (λ (x : CoordinatorView D). x.is_down) one.1 | inr same ↦ ap (λ (x : CoordinatorView D). x.is_down) same.1 ]
  raised v w place settled (Err e) runs a = ap (λ (x : CoordinatorView D). x.is_down) (a.err.0)

module _ {D : Type 0} (state : D → State) (honest : D → Type 0) (moment : D → ℕ) (left_since : D → ℕ → List ℕ → Type 0) where
  coordinator_checkpointed : (v w : CoordinatorView D) (r : Result (Unit {0}) Refusal) → IsRunning state honest v → w.is_down ≡ true → CheckpointAnswers state honest moment left_since v r w
      → HasPointCause state honest (coordinator_journal v) (coordinator_journal w)
  coordinator_checkpointed v w r runs is a = checkpointed (w ≡ v) (λ e. (e ≡ NoMemory) ⊎ (e ≡ Full)) _ v.is_down w.is_down r runs.up is (comes_up r (a.ok runs)) a.err (λ same. ap (λ (x : CoordinatorView D). x.is_down) same) a.cause
    where
      comes_up : (r : Result (Unit {0}) Refusal) → OnOk r (IsRunning state honest w × (w.durable ≡ next_checkpoint v) × (w.staged ≡ []) × (w.is_down ≡ false)) → OnOk r (w.is_down ≡ false)
      comes_up (Ok done) all = all.3
      comes_up (Err e) all = tt

  coordinator_fails : (v w : CoordinatorView D) (call : CoordinatorCall) (reply : CoordinatorReply) → IsRunning state honest v → w.is_down ≡ true
      → CoordinatorAnswers state honest moment left_since v call reply w → HasPointCause state honest (coordinator_journal v) (coordinator_journal w) × honest w.a × honest w.b
  coordinator_fails v w (Begin write) (told.Begin r) runs is a = absurd (stays_up v.is_down w.is_down runs.up (begun state honest v w write r runs a) is)
  coordinator_fails v w Heads (told.Heads r) runs is a = absurd (stays_up v.is_down w.is_down runs.up (ap (λ (x : CoordinatorView D). x.is_down) a.0) is)
  coordinator_fails v w (Batch from to) (told.Batch r) runs is a = absurd (stays_up v.is_down w.is_down runs.up (ap (λ (x : CoordinatorView D). x.is_down) a.0) is)
  coordinator_fails v w (Decide intent votes) (told.Decide r) runs is a = absurd (stays_up v.is_down w.is_down runs.up (decided state honest v w intent votes.items r runs a) is)
  coordinator_fails v w (Outcome d) (told.Outcome r) runs is a = absurd (stays_up v.is_down w.is_down runs.up (ap (λ (x : CoordinatorView D). x.is_down) a.0) is)
  coordinator_fails v w (Abort intent) (told.Abort r) runs is a = absurd (stays_up v.is_down w.is_down runs.up (aborted state honest v w intent r runs a) is)
  coordinator_fails v w (Inquire id) (told.Inquire r) runs is a = absurd (stays_up v.is_down w.is_down runs.up (ap (λ (x : CoordinatorView D). x.is_down) a.0) is)
  coordinator_fails v w (Raise place settled) (told.Raise r) runs is a = absurd (stays_up v.is_down w.is_down runs.up (raised state honest v w place settled.items r runs a) is)
  coordinator_fails v w Flush (told.Flush r) runs is a = (
    flush_cause state honest (coordinator_journal v) (coordinator_journal w) (flushed _ _ v.is_down w.is_down r runs.up is a.up a.cause),
    a.still_honest.0.0 runs.honest_a,
    a.still_honest.1.0 runs.honest_b,
  )
  coordinator_fails v w Checkpoint (told.Checkpoint r) runs is a = (coordinator_checkpointed v w r runs is a, a.still_honest.0.0 runs.honest_a, a.still_honest.1.0 runs.honest_b)
  coordinator_fails v w call reply runs is a = absurd a

  same_down : (v w : ShardView D) → w ≡ v → w.is_down ≡ v.is_down
  same_down v w is = ap (λ (x : ShardView D). x.is_down) is

  stays_down : (v w : ShardView D) → Stays v w → w.is_down ≡ v.is_down
  stays_down v w is = ap (λ (x : ShardView D). x.is_down) is

  -- if its flush answered Ok, it is up
  shard_flushed : (v w : ShardView D) (r : Result (Unit {0}) Refusal) → IsUp state honest v → w.is_down ≡ true → by_shard.FlushAnswers state honest moment left_since v r w
      → HasCause state honest (journal_of v) (journal_of w)
  shard_flushed v w (Ok done) is_up is a = let both : true ≡ false = sym is ∙ (a.ok is_up).up.up in absurd cc
  shard_flushed v w (Err e) is_up is a = elim a.cause [ inl gone ↦ (let both : true ≡ false = sym gone ∙ is_up.up in absurd cc) | inr cause ↦ cause ]

  shard_checkpointed : (v w : ShardView D) (r : Result (Unit {0}) Refusal) → IsUp state honest v → w.is_down ≡ true → by_shard.CheckpointAnswers state honest moment left_since v r w
      → HasPointCause state honest (journal_of v) (journal_of w)
  shard_checkpointed v w r is_up is a = checkpointed (w ≡ v) (λ e. (e ≡ NoMemory) ⊎ (e ≡ Full)) _ v.is_down w.is_down r is_up.up is (comes_up r (a.ok is_up)) a.err (λ same. ap (λ (x : ShardView D). x.is_down) same) a.cause
    where
      comes_up : (r : Result (Unit {0}) Refusal) → OnOk r (ChecksPointAt state honest v w) → OnOk r (w.is_down ≡ false)
      comes_up (Ok done) all = all.up.up
      comes_up (Err e) all = tt

  shard_fails : (v w : ShardView D) (call : ShardCall) (reply : ShardReply) → IsUp state honest v → w.is_down ≡ true
      → ShardAnswers state honest moment left_since v call reply w → HasPointCause state honest (journal_of v) (journal_of w) × honest w.a × honest w.b
  shard_fails v w Learned (told_by.Learned r) is_up is a = absurd (stays_up v.is_down w.is_down is_up.up (same_down v w a.0) is)
  shard_fails v w (Learn batch) (told_by.Learn back r) is_up is a = absurd (stays_up v.is_down w.is_down is_up.up (stays_down v w a.1.stays) is)
  shard_fails v w (StagePrepare intent) (told_by.StagePrepare back r) is_up is a = absurd (stays_up v.is_down w.is_down is_up.up (stays_down v w a.1.stays) is)
  shard_fails v w (Vote ticket) (told_by.Vote r) is_up is a = absurd (stays_up v.is_down w.is_down is_up.up (same_down v w a.0) is)
  shard_fails v w (DropWrite verdict held) (told_by.DropWrite back r) is_up is a = absurd (stays_up v.is_down w.is_down is_up.up (stays_down v w a.1.stays) is)
  shard_fails v w InDoubt (told_by.InDoubt r) is_up is a = absurd (stays_up v.is_down w.is_down is_up.up (same_down v w a.0) is)
  shard_fails v w (Read place set) (told_by.Read back r) is_up is a = absurd (stays_up v.is_down w.is_down is_up.up (same_down v w a.0) is)
  shard_fails v w (ReadForCheck place x u) (told_by.ReadForCheck back_x back_u r) is_up is a = absurd (stays_up v.is_down w.is_down is_up.up (same_down v w a.0) is)
  shard_fails v w Settle (told_by.Settle r) is_up is a = absurd (stays_up v.is_down w.is_down is_up.up (same_down v w a.0) is)
  shard_fails v w (Collect heads) (told_by.Collect back r) is_up is a = absurd (stays_up v.is_down w.is_down is_up.up (stays_down v w a.1.stays) is)
  shard_fails v w flush_shard (told_by.Flush r) is_up is a = (
    flush_cause state honest (journal_of v) (journal_of w) (shard_flushed v w r is_up is a),
    a.still_honest.0.0 is_up.honest_a,
    a.still_honest.1.0 is_up.honest_b,
  )
  shard_fails v w checkpoint_shard (told_by.Checkpoint r) is_up is a = (shard_checkpointed v w r is_up is a, a.still_honest.0.0 is_up.honest_a, a.still_honest.1.0 is_up.honest_b)
  shard_fails v w call reply is_up is a = absurd a

module _ {D : Type 0} (state : D → State) (honest : D → Type 0) (moment : D → ℕ) (left_since : D → ℕ → List ℕ → Type 0) (store shards : ℕ) where
  of_coordinator : (old new : Store D) (now : Moment) (v w : CoordinatorView D) (call : CoordinatorCall) (reply : CoordinatorReply) → StandsOver state honest store shards old now
      → IsNode store shards old coordinator (views.coordinator v) → IsNode store shards new coordinator (views.coordinator w) → CoordinatorAnswers state honest moment left_since v call reply w
      → shown (views.coordinator w) ≡ down → shown (views.coordinator v) ≢ down → HasDeviceCause state honest moment left_since store shards old.devices new.devices coordinator
  of_coordinator old new now v w call reply standing before after answered is_down not_down =
      let runs = runs_now state honest store shards old now standing v before (is_up_of v.is_down v.durable v.staged not_down) in
      let fails = coordinator_fails state honest moment left_since v w call reply runs (is_down_of w.is_down w.durable w.staged is_down) answered in
      failed_points_have_cause state honest moment left_since store shards old.devices new.devices coordinator (coordinator_journal v) (coordinator_journal w)
      (sym (ap (λ (p : D × D). p.0) before.devices)) (sym (ap (λ (p : D × D). p.1) before.devices)) (sym (ap (λ (p : D × D). p.0) after.devices)) (sym (ap (λ (p : D × D). p.1) after.devices)) runs.honest_a runs.honest_b fails.1 fails.2 fails.0

  of_shard : (old new : Store D) (now : Moment) (s : ℕ) (v w : ShardView D) (call : ShardCall) (reply : ShardReply) → StandsOver state honest store shards old now
      → IsNode store shards old (shard s) (views.shard v) → IsNode store shards new (shard s) (views.shard w) → ShardAnswers state honest moment left_since v call reply w
      → shown (views.shard w) ≡ down → shown (views.shard v) ≢ down → HasDeviceCause state honest moment left_since store shards old.devices new.devices (shard s)
  of_shard old new now s v w call reply standing before after answered is_down not_down =
      let is_up = shard_is_up state honest store shards old now standing s v before (is_up_of v.is_down v.durable v.staged not_down) in
      let fails = shard_fails state honest moment left_since v w call reply is_up (is_down_of w.is_down w.durable w.staged is_down) answered in
      failed_points_have_cause state honest moment left_since store shards old.devices new.devices (shard s) (journal_of v) (journal_of w)
      (sym (ap (λ (p : D × D). p.0) before.devices)) (sym (ap (λ (p : D × D). p.1) before.devices)) (sym (ap (λ (p : D × D). p.0) after.devices)) (sym (ap (λ (p : D × D). p.1) after.devices)) is_up.honest_a is_up.honest_b fails.1 fails.2 fails.0

  -- the node that is called has the name of its kind
  of_any_coordinator : (old new : Store D) (now : Moment) (n : NodeName) (v w : CoordinatorView D) (call : CoordinatorCall) (reply : CoordinatorReply) → StandsOver state honest store shards old now
      → IsNode store shards old n (views.coordinator v) → IsNode store shards new n (views.coordinator w) → CoordinatorAnswers state honest moment left_since v call reply w
      → shown (views.coordinator w) ≡ down → shown (views.coordinator v) ≢ down → HasDeviceCause state honest moment left_since store shards old.devices new.devices n
  of_any_coordinator old new now coordinator v w call reply standing before after answered is_down not_down = of_coordinator old new now v w call reply standing before after answered is_down not_down
  of_any_coordinator old new now (shard s) v w call reply standing before after answered is_down not_down = absurd before.named

  of_any_shard : (old new : Store D) (now : Moment) (n : NodeName) (v w : ShardView D) (call : ShardCall) (reply : ShardReply) → StandsOver state honest store shards old now
      → IsNode store shards old n (views.shard v) → IsNode store shards new n (views.shard w) → ShardAnswers state honest moment left_since v call reply w
      → shown (views.shard w) ≡ down → shown (views.shard v) ≢ down → HasDeviceCause state honest moment left_since store shards old.devices new.devices n
  of_any_shard old new now coordinator v w call reply standing before after answered is_down not_down = absurd before.named
  of_any_shard old new now (shard s) v w call reply standing before after answered is_down not_down = of_shard old new now s v w call reply standing before after answered is_down not_down

  by_kind : (old new : Store D) (now : Moment) (n : NodeName) (was : NodeView D) (call : NodeCall) (reply : Reply) (is : NodeView D) → StandsOver state honest store shards old now
      → IsNode store shards old n was → IsNode store shards new n is → Answered state honest moment left_since was call reply is
      → shown is ≡ down → shown was ≢ down → HasDeviceCause state honest moment left_since store shards old.devices new.devices n
  by_kind old new now n (views.coordinator v) (Coordinator call) (from_coordinator reply) (views.coordinator w) standing before after answered is_down not_down =
      of_any_coordinator old new now n v w call reply standing before after answered is_down not_down
  by_kind old new now n (views.shard v) (Shard s call) (from_shard reply) (views.shard w) standing before after answered is_down not_down =
      of_any_shard old new now n v w call reply standing before after answered is_down not_down
  by_kind old new now n (views.refused e a b) call reply is standing before after answered is_down not_down = absurd (not_down (sym (ap shown answered.0) ∙ is_down))
  by_kind old new now n was call reply is standing before after answered is_down not_down = absurd answered

  pub failed_calls_have_cause : FailedCallsHaveCause state honest moment left_since store shards
  failed_calls_have_cause old new now n was is call reply standing before after answered is_down not_down = by_kind old new now n was call reply is standing before after answered is_down not_down
