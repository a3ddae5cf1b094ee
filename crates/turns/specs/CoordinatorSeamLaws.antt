-- The seams between the contracts of the coordinator's calls that give and close no id, over its own records, and turns of a run: heads, batch, inquire,
-- outcome and raise. Of the premises, the records of the call's contract are the coordinator's; that the store stands, and that its nodes are seen so, is
-- the store's; and what a flow is asked and holds is the flow's.
use Rattle.std.specs.Prelude.{◌≡◌, ◌≢◌, ◌⊎◌, ◌≤◌, ◌<◌, ◌+◌, ◌-◌, ◌^◌, ℕ, min, true, false, List, [], ◌∷◌, ◌++◌, length, Option, Some, None, Contains}
use Rattle.refusal.specs.declared.refusal.Refusal.{Refusal}
use Rattle.refusal.specs.declared.refusal.Refusal.TheVariants.{Aborted, Collected, Full, Future, Unsure}
use Rattle.tuples.specs.declared.change.Change.{Change}
use Rattle.tuples.specs.declared.change.Condition.{Condition}
use Rattle.tuples.specs.declared.entry.Entry.{Entry}
use Rattle.tuples.specs.declared.entry.WriteId.{WriteId}
use Rattle.tuples.specs.Limits.{max_batch}
use Rattle.journal.specs.Records.{HasNoRoom}
use Rattle.records.specs.declared.record.Record.{Record}
use Rattle.records.specs.declared.record.Record.TheVariants.{Decision, Horizon}
use Rattle.records.specs.Format.{IsRecord}
use Rattle.records.specs.Coordinators.{CoordinatorState, end_of}
use Rattle.decisions.specs.Coordinators.{BatchesAt, CoordinatorView, FindsAt, FindsNone, HasNoPlace, HaveSettled, IsDecidedAbove, IsKeptBy, IsOfNow, RaisesAt, heads_of, kept_of, memory_of}
use Rattle.decisions.specs.Standing.{DecidedValue, HeadsValue}
use Rattle.decisions.specs.Values.{BatchValue, IntentValue}
use Rattle.laws.specs.Nodes.{CoordinatorKnows, NodeName, Nodes, coordinator}
use Rattle.stores.specs.AbortLaws.{IsUndecidedFlow}
use Rattle.stores.specs.Causes.{IsCause, WantsFuture}
use Rattle.stores.specs.Flows.{Asked, Freshness, Holds, RaiseHolds, ResolveHolds, Resolved, WriteHolds, aborted, at_least, checking, collecting, committed, exact, flushing, id_of, latest, learning, raising, reading, resolving, to_check, to_raise, to_read, to_resolve, to_watch, to_write, undecided, watching, writing}
use Rattle.stores.specs.Held.{AreRightHeads, IsRightBatch, IsRightResolved, IsRightVerdict}
use Rattle.stores.specs.Moments.{Moment, Running}
use Rattle.stores.specs.Replies.{IsPlaceOf, wrote}
use Rattle.stores.specs.Stands.{IsHorizonIn, Stands}
use Rattle.turns.specs.QuietTurns.{IsAway, ending, going_on, with_batch, with_call}
use Rattle.turns.specs.Runs.{Turns, answered, refuses}
use Rattle.turns.specs.SeamLaws.{IsSeen, behind, told_unless}

-- what the flow holds, with these heads, if it asks for any
abbrev pub with_heads : HeadsValue → Holds → Holds
with_heads v (writing h) = writing h
with_heads v (reading h) = reading (record h { heads = Some v })
with_heads v (checking h) = checking (record h { heads = Some v })
with_heads v (watching h) = watching (record h { heads = Some v })
with_heads v flushing = flushing
with_heads v (learning h) = learning (record h { heads = Some v })
with_heads v (resolving h) = resolving h
with_heads v (raising h) = raising (record h { heads = Some v })
with_heads v (collecting h) = collecting (record h { heads = Some v })

-- the place that heads give to an answer: the kept one; the kept one, if it is not below the one given; or the one given, if it is kept and not below
-- the horizon
abbrev pub FindsPlace : Freshness → HeadsValue → ℕ → Type 0
FindsPlace latest v place = place ≡ v.kept
FindsPlace (at_least z) v place = (place ≡ v.kept) × (z ≤ place)
FindsPlace (exact z) v place = (place ≡ z) × (z ≤ v.kept) × (v.horizon ≤ z)

-- heads that are right give a place that is right
abbrev pub PlacesAreFound : Type 0
PlacesAreFound = (now : Moment) (r : Running) (fresh : Freshness) (v : HeadsValue) (place : ℕ) → AreRightHeads r now.machine v → FindsPlace fresh v place
    → IsPlaceOf fresh r now.machine place

-- by these heads what is asked lies above the log, or, to raise the horizon, above the kept place
abbrev pub AsksAbove : HeadsValue → Asked → Type 0
AsksAbove v (to_read fresh sets) = WantsFuture v.length fresh
AsksAbove v (to_check fresh x u) = WantsFuture v.length fresh
AsksAbove v (to_watch c limit names) = v.length < c
AsksAbove v (to_raise x) = v.kept < x
AsksAbove v asked = ⊥

-- the place given lies below the horizon
abbrev pub GivesBelow : HeadsValue → Freshness → Type 0
GivesBelow v latest = ⊥
GivesBelow v (at_least z) = ⊥
GivesBelow v (exact z) = z < v.horizon

-- by these heads what is asked lies below the horizon
abbrev pub AsksBelow : HeadsValue → Asked → Type 0
AsksBelow v (to_read fresh sets) = GivesBelow v fresh
AsksBelow v (to_check fresh x u) = GivesBelow v fresh
AsksBelow v (to_watch c limit names) = c < v.horizon
AsksBelow v asked = ⊥

-- the verdict that goes with what became of a write
abbrev pub verdict_with : Resolved → Option WriteId
verdict_with (committed id place) = None
verdict_with (aborted id) = Some id
verdict_with (undecided id) = None

-- a resolution that has asked for one more write
abbrev pub with_resolved : Resolved → ResolveHolds → Holds
with_resolved x h = resolving (record h { found = h.found ++ x ∷ []; verdict = verdict_with x })

-- a running write that has decided
pub record HasDecided (now : Moment) (r : Running) (changes : List Change) (conditions : List Condition) (h : WriteHolds) (d : DecidedValue) : Type 0 where
  pub running : Contains now.running r
  pub asked : r.asked ≡ to_write changes conditions
  pub holds : r.holds ≡ writing h
  pub decided : h.decided ≡ Some d

-- a coordinator that is up is not of the decision's epoch
abbrev pub IsForgotten : Nodes → DecidedValue → Type 0
IsForgotten nodes d = (kept memory : CoordinatorState) → CoordinatorKnows nodes kept memory → d.epoch ≢ memory.epoch

-- The store has this id and this many shards, and a stop may leave this of each node, except for what is staged.
module _ (store shards : ℕ) (left : NodeName → List Record → Type 0) where
  -- after a call that leaves the nodes and the machine the store stands, and the turn is one of a run
  abbrev pub TurnsTo : Moment → Running → Running → Type 0
  TurnsTo now r later =
      let ran = going_on now now.nodes now.machine later in
      Stands store shards left ran × Turns shards (IsHorizonIn store shards left now.nodes) now r (told_unless r.is_cancelled) ran

  -- a flow that learned nothing, as a write whose decision is still staged, goes on with what it holds, in a turn
  abbrev pub StillTurns : Type 0
  StillTurns = (now : Moment) (r : Running) → Stands store shards left now → Contains now.running r → TurnsTo now r (with_call r r.holds r.met now.machine)

  -- a resolution notes what became of a write, in a turn
  abbrev pub ResolvingTurns : Type 0
  ResolvingTurns = (now : Moment) (r : Running) (s : ℕ) (h : ResolveHolds) (x : Resolved) → Stands store shards left now → Contains now.running r
      → r.asked ≡ to_resolve s → r.holds ≡ resolving h → IsRightResolved shards left now x → TurnsTo now r (with_call r (with_resolved x h) r.met now.machine)

  -- a write holds a verdict on itself, in a turn
  abbrev pub VerdictsTurn : Type 0
  VerdictsTurn = (now : Moment) (r : Running) (changes : List Change) (conditions : List Condition) (h : WriteHolds) (id : WriteId) → Stands store shards left now → Contains now.running r
      → r.asked ≡ to_write changes conditions → r.holds ≡ writing h → h.id ≡ Some id → IsRightVerdict shards left now id
      → TurnsTo now r (with_call r (writing (record h { verdict = Some id })) r.met now.machine)

  -- if the coordinator failed, or was opened since the decision, its flow ends with Unsure, which has its cause
  abbrev pub UnsureAnswers : Type 0
  UnsureAnswers = (now : Moment) (r : Running) (changes : List Change) (conditions : List Condition) (h : WriteHolds) (d : DecidedValue)
      → Stands store shards left now → HasDecided now r changes conditions h d → IsForgotten now.nodes d → r.is_cancelled ≡ false
      → let ran = ending now now.nodes now.machine r [] in
      Stands store shards left ran × Turns shards (IsHorizonIn store shards left now.nodes) now r (refuses Unsure ∷ []) ran

  -- the coordinator is up, over such devices
  module _ (D : Type 0) where
    -- the heads that it answers are those of the machine, and right heads of the flow that asked
    abbrev pub HeadsAnswer : Type 0
    HeadsAnswer = (now : Moment) (v : CoordinatorView D) (r : Running) (holds : Holds) → Stands store shards left now → IsSeen now.nodes v → Contains now.running r
        → ((heads_of v).length ≡ length now.machine.log) × ((heads_of v).kept ≡ now.machine.kept) × ((heads_of v).horizon ≡ now.machine.horizon)
        × AreRightHeads (with_call r holds r.met now.machine) now.machine (heads_of v)

    -- the flow holds them, in a turn
    abbrev pub HeadsTurn : Type 0
    HeadsTurn = (now : Moment) (v : CoordinatorView D) (r : Running) → Stands store shards left now → IsSeen now.nodes v → Contains now.running r
        → TurnsTo now r (with_call r (with_heads (heads_of v) r.holds) r.met now.machine)

    -- a flow that asks for what lies above, by the heads that it got, is refused with cause, and so is one that asks for what lies below
    abbrev pub HeadsHaveCause : Type 0
    HeadsHaveCause = (now after : Moment) (v : CoordinatorView D) (r : Running) → Stands store shards left now → IsSeen now.nodes v
        → (AsksAbove (heads_of v) r.asked → IsCause shards coordinator now after r Future) × (AsksBelow (heads_of v) r.asked → IsCause shards coordinator now after r Collected)

    -- the decisions after a place are those of the log, and this many
    abbrev pub BatchAnswers : Type 0
    BatchAnswers = (now : Moment) (v : CoordinatorView D) (from to : ℕ) (b : BatchValue) → Stands store shards left now → IsSeen now.nodes v → from ≤ to → BatchesAt v from to b
        → IsRightBatch now.machine b × (length b.writes ≡ min (to - from) max_batch)

    -- the flow holds them, in a turn
    abbrev pub BatchTurns : Type 0
    BatchTurns = (now : Moment) (v : CoordinatorView D) (r : Running) (from to : ℕ) (b : BatchValue) → Stands store shards left now → IsSeen now.nodes v → Contains now.running r
        → from ≤ to → BatchesAt v from to b → TurnsTo now r (with_call r (with_batch (Some b) r.holds) r.met now.machine)

    -- up to a kept place no batch is refused with Future; and if one from a watch's cursor on is refused with Collected, that has its cause
    abbrev pub BatchHasCause : Type 0
    BatchHasCause = (now after : Moment) (v : CoordinatorView D) (r : Running) (from to : ℕ) → Stands store shards left now → IsSeen now.nodes v
        → (to ≤ now.machine.kept → end_of (kept_of v) < to → ⊥)
        × ((limit : ℕ) (names : List (List ℕ)) → r.asked ≡ to_watch from limit names → from < (kept_of v).horizon → IsCause shards coordinator now after r Collected)

    -- what it finds of an id is right: a place for good, or that it is aborted
    abbrev pub InquiriesAnswer : Type 0
    InquiriesAnswer = (now : Moment) (v : CoordinatorView D) (id : WriteId) → Stands store shards left now → IsSeen now.nodes v
        → ((place : ℕ) → FindsAt v id place → IsRightResolved shards left now (committed id place)) × (FindsNone v id → IsRightVerdict shards left now id)

    -- a write that is not decided is found at no place: its flow is never told a commit
    abbrev pub UndecidedAreNotFound : Type 0
    UndecidedAreNotFound = (now : Moment) (v : CoordinatorView D) (r : Running) (h : WriteHolds) (w : Entry) (place : ℕ) → Stands store shards left now → IsSeen now.nodes v
        → IsUndecidedFlow now r h w → FindsAt v w.id place → ⊥

    -- a decision that is kept: its flow ends with its place
    abbrev pub KeptAnswers : Type 0
    KeptAnswers = (now : Moment) (v : CoordinatorView D) (r : Running) (changes : List Change) (conditions : List Condition) (h : WriteHolds) (d : DecidedValue) (holds : Holds)
        → Stands store shards left now → IsSeen now.nodes v → HasDecided now r changes conditions h d → IsKeptBy v d → id_of holds ≡ id_of r.holds → r.is_cancelled ≡ false
        → let ran = ending now now.nodes now.machine r [] in
        Stands store shards left ran × Turns shards (IsHorizonIn store shards left now.nodes) now r (answered (wrote d.place) ∷ []) ran

    -- it has forgotten each decision that is not of its epoch
    abbrev pub DecisionsAreForgotten : Type 0
    DecisionsAreForgotten = (nodes : Nodes) (v : CoordinatorView D) (d : DecidedValue) → IsSeen nodes v → v.is_down ≡ false → (IsOfNow v d → ⊥) → IsForgotten nodes d

    -- if it finds a write closed, or decided, its flow was cut off; and if it has no room or no place for the decision, that is so
    abbrev pub DecideHasCause : Type 0
    DecideHasCause = (now after : Moment) (v : CoordinatorView D) (r : Running) (h : WriteHolds) (w : Entry) (intent : IntentValue) → Stands store shards left now → IsSeen now.nodes v
        → IsUndecidedFlow now r h w → h.intent ≡ Some intent
        → ((Contains v.open_ids w.id → ⊥) ⊎ IsDecidedAbove v w.id → IsCause shards coordinator now after r Aborted)
        × (IsRecord (Decision (end_of (memory_of v) + 1) w) → HasNoPlace v w → IsCause shards coordinator now after r Full)

    -- it takes a raise: the flow has given what the shards settled, and the horizon is staged
    abbrev pub RaisesTurn : Type 0
    RaisesTurn = (now : Moment) (old new : CoordinatorView D) (r : Running) (place : ℕ) (h : RaiseHolds) → Stands store shards left now → IsSeen now.nodes old → Contains now.running r
        → r.asked ≡ to_raise place → r.holds ≡ raising h → RaisesAt old place new → HaveSettled shards place h.settled
        → let next = behind now.nodes new now.nodes.open_writes in
        let ran = going_on now next now.machine (with_call r (raising (record h { settled = []; is_raised = true })) r.met now.machine) in
        IsSeen next new × Stands store shards left ran × Turns shards (IsHorizonIn store shards left now.nodes) now r (told_unless r.is_cancelled) ran

    -- each refusal of a raise has its cause; the place is a number of 64 bits, as code has it
    abbrev pub RaiseHasCause : Type 0
    RaiseHasCause = (now after : Moment) (v : CoordinatorView D) (r : Running) (place : ℕ) → Stands store shards left now → IsSeen now.nodes v → r.asked ≡ to_raise place → place < 2 ^ 64
        → (end_of (kept_of v) < place → IsCause shards coordinator now after r Future) × (place < (kept_of v).horizon → IsCause shards coordinator now after r Collected)
        × (HasNoRoom v.staged (Horizon place) → IsCause shards coordinator now after r Full)

-- and any while it is away
abbrev pub AwayIsForgotten : Type 0
AwayIsForgotten = (nodes : Nodes) (d : DecidedValue) (e : Refusal) → IsAway nodes coordinator e → IsForgotten nodes d
