-- What a resolution is told: which writes are in doubt at a shard, what became of one, and that it was dropped.
use Rattle.std.proofs.Common.{◌≡◌, ◌⊎◌, inl, inr, ⊎_elim, ◌≤◌, ℕ, true≢false, List, None, Ok, Err, Result, refl, sym, ap}
use Rattle.std.proofs.lemmas.Bool.{cases_Bool}
use Rattle.std.specs.Global.{Vec}
use Rattle.flow_turns.proofs.CallWords.{Answered, CoordinatorView, Down, IsCalled, Moment, NoMemory, NodeView, Refusal, StandsOver, State, Store, VerdictValue, WriteId, coordinator, from_coordinator, from_shard, left, of_coordinator, of_shard, shard}
use Rattle.decisions.specs.Coordinators.{FindsAt, FindsNone}
use Rattle.coordinator.specs.declared.telling.Inquiry.{Inquiry}
use Rattle.coordinator.specs.declared.telling.Inquiry.TheVariants.{Commit, Abort, Undecided}
use Rattle.shard.specs.Calls.{DropsAt}
use Rattle.calls.specs.Views as views
use Rattle.calls.specs.declared.call.CoordinatorCall.TheVariants as coordinator_calls
use Rattle.calls.specs.declared.call.ShardCall.TheVariants as shard_calls
use Rattle.calls.specs.declared.reply.CoordinatorReply.TheVariants as told
use Rattle.calls.specs.declared.reply.ShardReply.TheVariants as told_by
use Rattle.flow_turns.proofs.Asked.{FromCoordinator, IsStill, away, coordinator_gone, coordinator_tells, shard_gone, shard_tells, staged_made}
use Rattle.flow_turns.proofs.AskedMore.{ShardDid}
use Rattle.flow_turns.proofs.Made.{Comes, FailsQuietly}
use Rattle.flow_turns.proofs.Standing.{runs_now, shard_is_seen, shard_is_up}

module _ {D : Type 0} (state : D → State) (honest : D → Type 0) (moment : D → ℕ) (left_since : D → ℕ → List ℕ → Type 0)
    (counts_now : (d : D) (t : ℕ) (c : List ℕ) → honest d → t ≤ moment d → left (state d) c → left_since d t c) (only_now : (d : D) (c : List ℕ) → honest d → left_since d (moment d) c → left (state d) c)
    (store shards : ℕ) (old new : Store D) (now : Moment) (standing : StandsOver state honest store shards old now) where
  abbrev Still : Type 0
  Still = IsStill state honest moment left_since counts_now only_now store shards old new now standing

  -- the writes in doubt at a shard: one that is up refuses only for lack of memory
  abbrev pub DoubtsCome : ℕ → Result (Vec WriteId) Refusal → Type 0
  DoubtsCome s (Ok ids) = Still
  DoubtsCome s (Err e) = FailsQuietly state honest moment left_since store shards old new now standing (shard s) e ⊎ (Still × (e ≡ NoMemory))

  pub doubts_told : (s : ℕ) (was is : NodeView D) (r : Result (Vec WriteId) Refusal) → IsCalled state honest moment left_since store shards (shard s) was is old new
      → Answered state honest moment left_since was (of_shard s shard_calls.InDoubt) (from_shard (told_by.InDoubt r)) is → DoubtsCome s r
  doubts_told s (views.shard v) (views.shard w) (Ok ids) called so = ⊎_elim
      (λ gone. absurd (let bad : Ok ids ≡ Err Down = so.1.down.1 gone in cc))
      (λ is_up. (shard_tells state honest moment left_since counts_now only_now store shards old new now standing s v w called (λ x. Unit {0}) so.0 is_up tt).0)
      (cases_Bool v.is_down)
  doubts_told s (views.shard v) (views.shard w) (Err e) called so = ⊎_elim
      (λ gone. inl (shard_gone state honest moment left_since counts_now only_now store shards old new now standing s v w called e so.0 gone (let both : Err e ≡ Err Down = so.1.down.1 gone in cc)))
      (λ is_up. ⊎_elim
      (λ is. inl (shard_gone state honest moment left_since counts_now only_now store shards old new now standing s v w called e so.0 (so.1.down.0 (ap Err is)) is))
      (λ is. inr ((shard_tells state honest moment left_since counts_now only_now store shards old new now standing s v w called (λ x. Unit {0}) so.0 is_up tt).0, is))
      so.1.err)
      (cases_Bool v.is_down)
  doubts_told s (views.shard v) (views.coordinator w) r called so = absurd so
  doubts_told s (views.shard v) (views.refused e a b) r called so = absurd so
  doubts_told s (views.coordinator v) is r called so = absurd called.before.named
  doubts_told s (views.refused e a b) is (Ok ids) called so = absurd (let bad : Ok ids ≡ Err e = so.1 in cc)
  doubts_told s (views.refused e a b) is (Err f) called so = inl (away state honest moment left_since counts_now only_now store shards old new now standing (shard s) e f a b is called so.0 (let both : Err f ≡ Err e = so.1 in cc))

  -- what became of a write
  abbrev pub TellsOf : WriteId → Inquiry → CoordinatorView D → Type 0
  TellsOf id (Commit place) v = FindsAt v id place
  TellsOf id (Abort verdict) v = (verdict.id ≡ id) × FindsNone v id
  TellsOf id Undecided v = Unit {0}

  pub inquire_told : (was is : NodeView D) (id : WriteId) (r : Result Inquiry Refusal) → IsCalled state honest moment left_since store shards coordinator was is old new
      → Answered state honest moment left_since was (of_coordinator (coordinator_calls.Inquire id)) (from_coordinator (told.Inquire r)) is
      → Comes state honest moment left_since store shards old new now standing coordinator r (λ x. FromCoordinator state honest moment left_since counts_now only_now store shards old new now standing (TellsOf id x))
  inquire_told (views.coordinator v) (views.coordinator w) id (Ok x) called so = ⊎_elim
      (λ gone. absurd (true≢false (sym (so.1.down.1 gone))))
      (λ is_up.
      let runs = runs_now state honest store shards old now standing v called.before is_up in
      coordinator_tells state honest moment left_since counts_now only_now store shards old new now standing v w called so.0 (TellsOf id x) is_up
      (by_inquiry x (λ place same. so.1.commit place runs (ap Ok same)) (λ verdict same. so.1.abort verdict runs (ap Ok same))))
      (cases_Bool v.is_down)
    where
      by_inquiry : (y : Inquiry) → ((place : ℕ) → y ≡ Commit place → FindsAt v id place) → ((verdict : VerdictValue) → y ≡ Abort verdict → (verdict.id ≡ id) × FindsNone v id) → TellsOf id y v
      by_inquiry (Commit place) commit abort = commit place refl
      by_inquiry (Abort verdict) commit abort = abort verdict refl
      by_inquiry Undecided commit abort = tt
  inquire_told (views.coordinator v) (views.coordinator w) id (Err e) called so = coordinator_gone state honest moment left_since counts_now only_now store shards old new now standing v w called so.0 e (so.1.down.0 refl) so.1.err
  inquire_told (views.coordinator v) (views.shard w) id r called so = absurd so
  inquire_told (views.coordinator v) (views.refused e a b) id r called so = absurd so
  inquire_told (views.shard v) is id r called so = absurd called.before.named
  inquire_told (views.refused e a b) is id (Ok x) called so = absurd (let bad : Ok x ≡ Err e = so.1 in cc)
  inquire_told (views.refused e a b) is id (Err f) called so = away state honest moment left_since counts_now only_now store shards old new now standing coordinator e f a b is called so.0 (let both : Err f ≡ Err e = so.1 in cc)

  -- a write that a shard was asked to drop
  pub drop_told : (s : ℕ) (was is : NodeView D) (verdict back : VerdictValue) (r : Result (Unit {0}) Refusal) → IsCalled state honest moment left_since store shards (shard s) was is old new
      → Answered state honest moment left_since was (of_shard s (shard_calls.DropWrite verdict None)) (from_shard (told_by.DropWrite back r)) is
      → Comes state honest moment left_since store shards old new now standing (shard s) r (λ done. ShardDid state honest moment left_since counts_now only_now store shards old new now standing s (λ v w. DropsAt state honest v verdict.id w))
  drop_told s (views.shard v) (views.shard w) verdict back (Ok done) called so = ⊎_elim
      (λ gone. absurd (true≢false (sym (so.1.down.1 gone))))
      (λ is_up. (
        v,
        w,
        shard_is_seen state honest store shards old now standing s v called.before is_up,
        so.1.drops (shard_is_up state honest store shards old now standing s v called.before is_up),
        λ quiet. staged_made state honest moment left_since counts_now only_now store shards old new now standing s v w called so.1.stays is_up quiet,
      ))
      (cases_Bool v.is_down)
  drop_told s (views.shard v) (views.shard w) verdict back (Err e) called so = shard_gone state honest moment left_since counts_now only_now store shards old new now standing s v w called e so.1.err.1 (so.1.down.0 refl) so.1.err.0
  drop_told s (views.shard v) (views.coordinator w) verdict back r called so = absurd so
  drop_told s (views.shard v) (views.refused e a b) verdict back r called so = absurd so
  drop_told s (views.coordinator v) is verdict back r called so = absurd called.before.named
  drop_told s (views.refused e a b) is verdict back (Ok done) called so = absurd (let bad : Ok done ≡ Err e = so.1.1 in cc)
  drop_told s (views.refused e a b) is verdict back (Err f) called so = away state honest moment left_since counts_now only_now store shards old new now standing (shard s) e f a b is called so.0 (let both : Err f ≡ Err e = so.1.1 in cc)
