-- What each call of a coordinator answers, in the words of the coordinator's own contracts.
use Rattle.std.specs.Prelude.{◌≡◌, ◌⊎◌, ◌↔◌, ◌≤◌, ◌<◌, ℕ, true, false, List, [], Result, Ok, Err, Some, None, All, Contains, IfOk, IfErr, IsErr, IsErrOf, OnOk, OnErr, ◌∷◌}
use Rattle.refusal.specs.Refusals.{IsOneOf}
use Rattle.refusal.specs.declared.refusal.Refusal.{Refusal}
use Rattle.refusal.specs.declared.refusal.Refusal.TheVariants.{Aborted, Collected, Down, Full, Future, NoMemory}
use Rattle.tuples.specs.declared.entry.WriteId.{WriteId}
use Rattle.tuples.specs.Writes.{WriteValue}
use Rattle.records.specs.declared.record.Record.TheVariants.{Horizon}
use Rattle.records.specs.Coordinators.{end_of}
use Rattle.device.specs.Device.{State}
use Rattle.records.specs.Checkpoints.{generation_of}
use Rattle.records.specs.Replays.{greatest_number}
use Rattle.journal.specs.Ahead.{HasPointCause}
use Rattle.journal.specs.Records.{HasCause, HasNoRoom, HasOldOrNew, LeavesBoth, LeavesEach}
use Rattle.decisions.specs.Checkpoints.{HasOldNewOrPoint, next_checkpoint}
use Rattle.decisions.specs.Standing.{DecidedValue}
use Rattle.decisions.specs.Values.{BatchValue, HeadsValue, IntentValue, SettledValue, VerdictValue, VoteValue}
use Rattle.decisions.specs.Coordinators.{AbortsAt, BatchesAt, BeginsAt, CoordinatorView, DecidesAt, FindsAt, FindsNone, FindsNothingYet, FirstIs, FlushesAll, HasNoId, HasNoPlace, IsDecidedAbove, IsGivenAt, IsInRange, IsKeptBy, IsOfNow, IsRising, IsRunning, IsStagedBy, KeepsOpen, NamesCollected, NamesFuture, RaisesAt, coordinator_journal, heads_of, kept_of}
use Rattle.coordinator.specs.declared.decided.NotDecided.{NotDecided}
use Rattle.coordinator.specs.declared.raising.NotRaised.{NotRaised}
use Rattle.coordinator.specs.declared.telling.Outcome as outcomes
use Rattle.coordinator.specs.declared.telling.Outcome.TheVariants.{Kept, Later, Unsure}
use Rattle.coordinator.specs.declared.telling.Inquiry as inquiries
use Rattle.coordinator.specs.declared.telling.Inquiry.TheVariants.{Commit, Abort, Undecided}

module _ {D : Type 0} (state : D → State) (honest : D → Type 0) where
  -- a write is begun, or refused with the first cause
  pub record BeginAnswers (old : CoordinatorView D) (write : WriteValue) (r : Result IntentValue Refusal) (new : CoordinatorView D) : Type 0 where
    pub ok : IsRunning state honest old → IfOk r (λ i. BeginsAt old write.changes write.conditions i new × IsRunning state honest new)
    pub down : IsErrOf r Down ↔ (old.is_down ≡ true)
    pub future : IsRunning state honest old → IsErrOf r Future → FirstIs old write.conditions (NamesFuture old)
    pub collected : IsRunning state honest old → IsErrOf r Collected → FirstIs old write.conditions (NamesCollected old)
    pub full : IsRunning state honest old → IsErrOf r Full → All (IsInRange old) write.conditions × HasNoId old
    pub memory : IsRunning state honest old → IsErrOf r NoMemory → All (IsInRange old) write.conditions × (HasNoId old → ⊥)
    pub err : IfErr r (λ e. (new ≡ old) × IsOneOf e (Down ∷ Future ∷ Collected ∷ Full ∷ NoMemory ∷ []))

  -- a decision is staged at the next place, or not, and then with what comes back
  pub record DecideAnswers (old : CoordinatorView D) (intent : IntentValue) (votes : List VoteValue) (r : Result DecidedValue NotDecided) (new : CoordinatorView D) : Type 0 where
    pub ok : IsRunning state honest old → IfOk r (λ d. DecidesAt old intent.write d new × IsRunning state honest new)
    pub down : IfErr r (λ e. (e.refusal ≡ Down) ↔ (old.is_down ≡ true))
    pub aborted : IsRunning state honest old → IfErr r (λ e. (e.refusal ≡ Aborted) ↔ ((Contains old.open_ids intent.write.id → ⊥) ⊎ IsDecidedAbove old intent.write.id))
    pub full : IsRunning state honest old → IfErr r (λ e. e.refusal ≡ Full → HasNoPlace old intent.write)
    pub memory : IsRunning state honest old → IfErr r (λ e. e.refusal ≡ NoMemory → HasNoPlace old intent.write → ⊥)
    pub same : OnErr r (new ≡ old)
    pub votes_back : IfErr r (λ e. e.votes.items ≡ votes)
    pub spent : IfErr r (λ e. ((e.refusal ≡ Down) ⊎ (e.refusal ≡ Aborted)) × (e.intent ≡ None) ⊎ (((e.refusal ≡ Full) ⊎ (e.refusal ≡ NoMemory)) × (e.intent ≡ Some intent)))
    pub was_up : old.is_down ≡ true → IsErr r

  -- what became of a decision
  pub record OutcomeAnswers (v : CoordinatorView D) (decided : DecidedValue) (r : outcomes.Outcome) : Type 0 where
    pub kept : (place : ℕ) → IsRunning state honest v → r ≡ Kept place → (place ≡ decided.place) × IsKeptBy v decided
    pub later : (d : DecidedValue) → IsRunning state honest v → r ≡ Later d → (d ≡ decided) × IsStagedBy v decided
    pub unsure : IsRunning state honest v → r ≡ Unsure → IsOfNow v decided → ⊥
    pub down : v.is_down ≡ true → r ≡ Unsure

  -- a write is aborted, or not
  pub record AbortAnswers (old : CoordinatorView D) (intent : IntentValue) (r : Result VerdictValue Refusal) (new : CoordinatorView D) : Type 0 where
    pub ok : IsRunning state honest old → IfOk r (λ v. (v.id ≡ intent.write.id) × AbortsAt old intent.write.id new × IsRunning state honest new)
    pub down : IsErrOf r Down ↔ (old.is_down ≡ true)
    pub aborted : IsRunning state honest old → IsErrOf r Aborted ↔ ((IsGivenAt old intent.write.id → ⊥) ⊎ IsDecidedAbove old intent.write.id)
    pub err : IfErr r (λ e. (new ≡ old) × ((e ≡ Down) ⊎ (e ≡ Aborted)))

  -- what is known of an id
  pub record InquireAnswers (v : CoordinatorView D) (id : WriteId) (r : Result inquiries.Inquiry Refusal) : Type 0 where
    pub commit : (place : ℕ) → IsRunning state honest v → r ≡ Ok (Commit place) → FindsAt v id place
    pub abort : (verdict : VerdictValue) → IsRunning state honest v → r ≡ Ok (Abort verdict) → (verdict.id ≡ id) × FindsNone v id
    pub undecided : IsRunning state honest v → r ≡ Ok Undecided → FindsNothingYet v id
    pub down : IsErr r ↔ (v.is_down ≡ true)
    pub err : IfErr r (λ e. e ≡ Down)

  -- the decisions after a place
  pub record BatchAnswers (v : CoordinatorView D) (from to : ℕ) (r : Result BatchValue Refusal) : Type 0 where
    pub ok : IsRunning state honest v → IfOk r (BatchesAt v from to)
    pub down : IsErrOf r Down ↔ (v.is_down ≡ true)
    pub future : IsRunning state honest v → IsErrOf r Future ↔ (end_of (kept_of v) < to)
    pub collected : IsRunning state honest v → IsErrOf r Collected ↔ ((to ≤ end_of (kept_of v)) × (from < (kept_of v).horizon))
    pub err : IfErr r (λ e. IsOneOf e (Down ∷ Future ∷ Collected ∷ NoMemory ∷ []))

  -- how far it is
  pub record HeadsAnswers (v : CoordinatorView D) (r : Result HeadsValue Refusal) : Type 0 where
    pub ok : IsRunning state honest v → IfOk r (λ h. h ≡ heads_of v)
    pub down : IsErr r ↔ (v.is_down ≡ true)
    pub err : IfErr r (λ e. e ≡ Down)

  -- the horizon is raised, or not
  pub record RaiseAnswers (old : CoordinatorView D) (place : ℕ) (settled : List SettledValue) (r : Result (Unit {0}) NotRaised) (new : CoordinatorView D) : Type 0 where
    pub ok : IsRunning state honest old → OnOk r (RaisesAt old place new × (place ≤ end_of (kept_of old)) × IsRunning state honest new)
    pub down : IfErr r (λ e. (e.refusal ≡ Down) ↔ (old.is_down ≡ true))
    pub collected : IsRunning state honest old → IfErr r (λ e. (e.refusal ≡ Collected) ↔ (place < (kept_of old).horizon))
    pub future : IsRunning state honest old → IfErr r (λ e. (e.refusal ≡ Future) ↔ (end_of (kept_of old) < place))
    pub full : IsRunning state honest old → IfErr r (λ e. e.refusal ≡ Full → HasNoRoom old.staged (Horizon place) × (IsRising old place → ⊥))
    pub was_up : old.is_down ≡ true → IsErr r
    pub err : IfErr r (λ e. (new ≡ old) × (e.settled.items ≡ settled) × IsOneOf e.refusal (Down ∷ Collected ∷ Future ∷ Full ∷ []))

  -- what was staged is durable; or a device failed, and it may be so or not
  pub record FlushAnswers (moment : D → ℕ) (left_since : D → ℕ → List ℕ → Type 0) (old : CoordinatorView D) (r : Result (Unit {0}) Refusal) (new : CoordinatorView D) : Type 0 where
    pub still_honest : (honest old.a ↔ honest new.a) × (honest old.b ↔ honest new.b)
    pub any_moment : IsRunning state honest old → LeavesBoth moment left_since old.a old.b new.a new.b (HasOldOrNew old.durable old.staged)
    pub ok : IsRunning state honest old → OnOk r (IsRunning state honest new × FlushesAll old new)
    pub keeps : KeepsOpen old new
    pub counts : ((state old.a).failures ≤ (state new.a).failures) × ((state old.b).failures ≤ (state new.b).failures)
    pub up : OnOk r ((old.is_down ≡ false) × (new.is_down ≡ false) × (new.staged ≡ []))
    pub down : old.is_down ≡ true → IsErr r × (new ≡ old)
    pub quiet : old.staged ≡ [] → new ≡ old
    pub cause : OnErr r ((old.is_down ≡ true) ⊎ HasCause state honest (coordinator_journal old) (coordinator_journal new))
    pub err : IfErr r (λ e. (e ≡ Down) × (new.is_down ≡ true))

  -- as a flush, by a checkpoint that replaces all records
  pub record CheckpointAnswers (moment : D → ℕ) (left_since : D → ℕ → List ℕ → Type 0) (old : CoordinatorView D) (r : Result (Unit {0}) Refusal) (new : CoordinatorView D) : Type 0 where
    pub still_honest : (honest old.a ↔ honest new.a) × (honest old.b ↔ honest new.b)
    pub any_moment : IsRunning state honest old → LeavesEach moment left_since old.a old.b new.a new.b (HasOldNewOrPoint old)
    pub ok : IsRunning state honest old → OnOk r (IsRunning state honest new × (new.durable ≡ next_checkpoint old) × (new.staged ≡ []) × (new.is_down ≡ false))
    pub keeps : KeepsOpen old new
    pub counts : ((state old.a).failures ≤ (state new.a).failures) × ((state old.b).failures ≤ (state new.b).failures)
    pub down : old.is_down ≡ true → (r ≡ Err Down) × (new ≡ old)
    pub last : IsRunning state honest old → greatest_number ≤ generation_of old.durable → new ≡ old
    pub full : IsRunning state honest old → IsErrOf r Full → greatest_number ≤ generation_of old.durable
    pub cause : IsErrOf r Down → (old.is_down ≡ true) ⊎ HasPointCause state honest (coordinator_journal old) (coordinator_journal new)
    pub err : IfErr r (λ e. ((e ≡ Down) × (new.is_down ≡ true)) ⊎ ((new ≡ old) × ((e ≡ NoMemory) ⊎ (e ≡ Full))))
