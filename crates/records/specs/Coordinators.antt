-- What the records of a coordinator stand for, and which lists of records a coordinator can have.
use Rattle.std.specs.Prelude.{◌≡◌, ◌≢◌, ◌⊎◌, ◌≤◌, ◌<◌, ◌+◌, ℕ, Bool, true, List, [], ◌∷◌, ◌++◌, length, slice_get, Option, Some, None, All}
use Rattle.std.specs.List.{list_any}
use Rattle.tuples.specs.declared.tuple.Tuple.{Tuple}
use Rattle.tuples.specs.declared.change.Condition.{Condition}
use Rattle.tuples.specs.declared.entry.Entry.{Entry}
use Rattle.tuples.specs.declared.entry.WriteId.{WriteId}
use Rattle.tuples.specs.Changes.{changed, has_tuple}
use Rattle.tuples.specs.Log.{last_from, is_at, meets_want}
use Rattle.records.specs.declared.record.Record.{Record}
use Rattle.records.specs.declared.record.Record.TheVariants.{Prepare, Learned, Dropped, Epoch, Decision, Horizon, Checkpoint}
use Rattle.records.specs.Identity.{Identity, coordinator_number}
use Rattle.records.specs.Inside.{MayBegin, inside_of}
use Rattle.records.specs.Replays.{AskOfLog, MayTakeEpoch, MayTakeHorizon, greatest_number}
use Rattle.records.specs.declared.mark.Inside.{Inside}
use Rattle.records.specs.declared.mark.Mark.{Mark}
use Rattle.records.specs.declared.mark.Mark.TheVariants.{Begins, Row, Ends}
use Rattle.records.specs.declared.mark.Stage.TheVariants.{Bounded}

-- what a coordinator knows: the decisions after a place, its base, in the order of their places; the horizon; and how often it was opened
pub record CoordinatorState : Type 0 where
  pub base : ℕ
  pub log : List Entry
  pub horizon : ℕ
  pub epoch : ℕ

-- the base after a mark of a checkpoint: one that ended holds the decisions above its horizon
abbrev pub marked_base : Mark → CoordinatorState → ℕ
marked_base (Begins generation) s = s.base
marked_base (Row place change) s = s.base
marked_base (Ends generation) s = s.horizon

-- what one more record makes of it
unfoldable pub coordinator_step : CoordinatorState → Record → CoordinatorState
coordinator_step s (Prepare w) = s
coordinator_step s (Learned to placed_ids) = s
coordinator_step s (Dropped id) = s
coordinator_step s (Epoch epoch store shards node) = record s { epoch = epoch }
coordinator_step s (Decision place w) = record s { log = s.log ++ w ∷ [] }
coordinator_step s (Horizon place) = record s { horizon = place }
coordinator_step s (Checkpoint mark) = record s { base = marked_base mark s }

abbrev pub coordinator_from : CoordinatorState → List Record → CoordinatorState
coordinator_from s [] = s
coordinator_from s (r ∷ rs) = coordinator_from (coordinator_step s r) rs

abbrev pub empty_coordinator : CoordinatorState
empty_coordinator = record { base = 0; log = []; horizon = 0; epoch = 0 }

-- what the records of a coordinator stand for
unfoldable pub coordinator_state : List Record → CoordinatorState
coordinator_state rs = coordinator_from empty_coordinator rs

-- the number of decisions of the whole log, including those at or below the base
abbrev pub end_of : CoordinatorState → ℕ
end_of s = s.base + length s.log

-- no decision that it knows has this id
abbrev pub IsNotDecided : WriteId → CoordinatorState → Type 0
IsNotDecided id s = (j : ℕ) (w : Entry) → slice_get s.log j ≡ Some w → w.id ≢ id

-- no decision above the horizon has this id
abbrev pub IsNotAbove : WriteId → CoordinatorState → Type 0
IsNotAbove id s = (j : ℕ) (w : Entry) → slice_get s.log j ≡ Some w → s.horizon < s.base + j + 1 → w.id ≢ id

-- a decision that it knows changes the tuple
abbrev pub is_changed : CoordinatorState → Tuple → Bool
is_changed s t = list_any (λ (w : Entry). has_tuple t (changed w.changes)) s.log

-- the condition holds after its decisions, as far as those that it knows decide it: they say nothing of a tuple that none of them changes,
-- unless they are the whole log
abbrev pub HoldsKnown : CoordinatorState → Condition → Type 0
HoldsKnown s c = (s.base ≡ 0) ⊎ (is_changed s c.tuple ≡ true)
    → meets_want c.want (last_from 0 (s.base + 1) c.tuple s.log) (is_at s.log (length s.log) c.tuple) ≡ true

-- a write may be decided at a place: the next one, under an id that no decision has, with conditions that hold and ask about places of a log
pub record MayDecide (s : CoordinatorState) (place : ℕ) (w : Entry) : Type 0 where
  pub opened : 1 ≤ s.epoch
  pub next : place ≡ end_of s + 1
  pub place_fits : place ≤ greatest_number
  pub new : IsNotDecided w.id s
  pub conditions : All (HoldsKnown s) w.conditions
  pub some_epoch : 1 ≤ w.id.epoch
  pub epoch : w.id.epoch ≤ greatest_number
  pub some_number : 1 ≤ w.id.number
  pub number : w.id.number ≤ greatest_number
  pub places : AskOfLog w.conditions

-- the coordinator may be opened once more
pub record MayOpenAgain (me : Identity) (s : CoordinatorState) (epoch store shards node : ℕ) : Type 0 where
  pub next : epoch ≡ s.epoch + 1
  pub greatest : epoch ≤ greatest_number
  pub same_store : store ≡ me.store
  pub same_shards : shards ≡ me.shards
  pub same_node : node ≡ me.node
  pub coordinator : me.node ≡ coordinator_number

-- the horizon may be raised to a place of the log
pub record MayRaise (s : CoordinatorState) (place : ℕ) : Type 0 where
  pub opened : 1 ≤ s.epoch
  pub on : s.horizon ≤ place
  pub within : place ≤ end_of s

-- the record may come next at this coordinator, if no checkpoint is under way
abbrev pub MayComeNext : Identity → CoordinatorState → Record → Type 0
MayComeNext me s (Prepare w) = ⊥
MayComeNext me s (Learned to placed_ids) = ⊥
MayComeNext me s (Dropped id) = ⊥
MayComeNext me s (Epoch epoch store shards node) = MayOpenAgain me s epoch store shards node
MayComeNext me s (Decision place w) = MayDecide s place w
MayComeNext me s (Horizon place) = MayRaise s place
MayComeNext me s (Checkpoint mark) = ⊥

-- ---- within a checkpoint: one Epoch record, one Horizon, the decisions above it

pub record MayTakeOpening (me : Identity) (i : Inside) (epoch store shards node : ℕ) : Type 0 where
  pub may : MayTakeEpoch me i epoch store shards node
  pub coordinator : me.node ≡ coordinator_number

-- decisions stand after the horizon
pub record MayTakeDecision (i : Inside) (s : CoordinatorState) (place : ℕ) (w : Entry) : Type 0 where
  pub after : i.stage ≡ Bounded
  pub may : MayDecide (record s { base = s.horizon }) place w

pub record MayEndDecisions (i : Inside) (generation : ℕ) : Type 0 where
  pub after : i.stage ≡ Bounded
  pub same : generation ≡ i.generation

abbrev pub MayMarkNext : Inside → Mark → Type 0
MayMarkNext i (Begins generation) = ⊥
MayMarkNext i (Row place change) = ⊥
MayMarkNext i (Ends generation) = MayEndDecisions i generation

-- the record may come next at this coordinator, within a checkpoint
abbrev pub MayComeNextInside : Identity → Inside → CoordinatorState → Record → Type 0
MayComeNextInside me i s (Prepare w) = ⊥
MayComeNextInside me i s (Learned to placed_ids) = ⊥
MayComeNextInside me i s (Dropped id) = ⊥
MayComeNextInside me i s (Epoch epoch store shards node) = MayTakeOpening me i epoch store shards node
MayComeNextInside me i s (Decision place w) = MayTakeDecision i s place w
MayComeNextInside me i s (Horizon place) = MayTakeHorizon i s.horizon place
MayComeNextInside me i s (Checkpoint mark) = MayMarkNext i mark

-- the record may follow those that were read, whether or not a checkpoint has begun among them
abbrev pub MayFollowNext : Identity → Option Inside → CoordinatorState → Record → Type 0
MayFollowNext me None s r = MayComeNext me s r ⊎ MayBegin s.epoch r
MayFollowNext me (Some i) s r = MayComeNextInside me i s r

-- records of this coordinator, from the first on: each may follow those before it
abbrev pub BeginsCoordinatorImage : Identity → List Record → Type 0
BeginsCoordinatorImage me rs = (before after : List Record) (r : Record) → rs ≡ before ++ r ∷ after → MayFollowNext me (inside_of before) (coordinator_state before) r

-- the records of this coordinator: those of a checkpoint, if they begin with one, up to its end, and then each that may come after
-- those before it
pub record IsCoordinatorImage (me : Identity) (rs : List Record) : Type 0 where
  pub each : BeginsCoordinatorImage me rs
  pub whole : inside_of rs ≡ None
