-- Laws of a decision: what a store stands for once the coordinator has staged it, except for the flow that decides.
use Rattle.std.specs.Prelude.{◌≡◌, ◌≢◌, ◌≤◌, ◌<◌, ◌+◌, ℕ, true, None, List, [], ◌∷◌, ◌++◌, length, All, Contains, Some}
use Rattle.tuples.specs.declared.entry.Entry.{Entry}
use Rattle.tuples.specs.declared.entry.WriteId.{WriteId}
use Rattle.tuples.specs.Changes.{IsWrite}
use Rattle.tuples.specs.Log.{HoldAfter}
use Rattle.tuples.specs.Parts.{takes_part}
use Rattle.records.specs.declared.record.Record.{Record}
use Rattle.records.specs.declared.record.Record.TheVariants.{Decision}
use Rattle.records.specs.Coordinators.{IsCoordinatorImage}
use Rattle.records.specs.Replays.{without}
use Rattle.decisions.specs.Standing.{DecidedValue}
use Rattle.decisions.specs.Values.{IntentValue}
use Rattle.laws.specs.CoordinatorLaws.{IsPreparedInAll}
use Rattle.laws.specs.Worlds.{Rests, coordinator_node}
use Rattle.laws.specs.Machines.{Machine}
use Rattle.laws.specs.Nodes.{NodeName, Nodes, coordinator, leaves, shard, up}
use Rattle.stores.specs.Flows.{HeldVote, WriteHolds, id_of, onward, to_write, writing}
use Rattle.stores.specs.Held.{IsOpen, IsRight, IsRightIntent, IsRightVerdict, IsRightVote, IsRightWrite, IsUndecided}
use Rattle.stores.specs.Moments.{Moment, Running}
use Rattle.stores.specs.Stands.{HeadsStand, IdsStand, ListedStand, LocksStand, NodesStand, Stands, at_shards}

-- the coordinator stages a decision, and the write is open no longer
pub record StagesDecision (place : ℕ) (w : Entry) (old new : Nodes) : Type 0 where
  pub durable : List Record
  pub staged : List Record
  pub was : old.at coordinator ≡ up durable staged
  pub now : new.at coordinator ≡ up durable (staged ++ Decision place w ∷ [])
  pub shards : (s : ℕ) → new.at (shard s) ≡ old.at (shard s)
  pub open_writes : new.open_writes ≡ without w.id old.open_writes
  pub given : new.given ≡ old.given

-- the machine with one more write
abbrev pub with_write : Machine → Entry → Machine
with_write m w = record m { log = m.log ++ w ∷ [] }

-- the moment with these nodes and that machine
abbrev pub with_decision : Moment → Nodes → Entry → Moment
with_decision now next w = record now { nodes = next; machine = with_write now.machine w }

-- The store has this id and this many shards, and a stop may leave this of each node, except for what is staged.
module _ (store shards : ℕ) (left : NodeName → List Record → Type 0) where
  -- the coordinator of a store that stands stages a decision of a whole write that is open, prepared in whatever a stop leaves, and whose
  -- conditions hold
  pub record IsDeciding (now : Moment) (next : Nodes) (place : ℕ) (w : Entry) : Type 0 where
    pub stands : Stands store shards left now
    pub step : StagesDecision place w now.nodes next
    pub image : IsCoordinatorImage (coordinator_node store shards) ((step.durable ++ step.staged) ++ Decision place w ∷ [])
    pub is_open : IsOpen now.nodes w
    pub whole : IsWrite w.changes w.conditions
    pub prepared : IsPreparedInAll shards (at_shards (leaves left now.nodes)) w
    pub conditions : HoldAfter now.machine.log w.conditions

  -- what the store stands for, except for the flow of the write with this id
  pub record StandsButFor (id : WriteId) (now : Moment) : Type 0 where
    pub rests : Rests store shards now.machine.log now.machine.kept now.machine.horizon (leaves left now.nodes coordinator) (at_shards (leaves left now.nodes))
    pub nodes : NodesStand store shards left now.nodes
    pub heads : HeadsStand store shards left now.nodes now.machine
    pub listed : ListedStand store shards left now.nodes now.machine
    pub locks : LocksStand store shards left now.nodes
    pub ids : IdsStand store shards left now.nodes now.machine
    pub flows : (f : Running) → Contains now.running f → id_of f.holds ≢ Some id → IsRight shards left now f f.asked f.holds
    pub told : All (IsRightVerdict shards left now) now.told

  -- with one more write in the log, all but the flow that decides stands as before
  abbrev pub DecisionsStand : Type 0
  DecisionsStand = (now : Moment) (next : Nodes) (place : ℕ) (w : Entry) → IsDeciding now next place w
      → StandsButFor w.id (with_decision now next w)

  -- Votes of each shard that takes part, for an open write with its intent: the write is prepared in whatever a stop leaves, and its
  -- conditions hold. A stop leaves some records of each shard.
  abbrev pub VotesPrepare : Type 0
  VotesPrepare = (now : Moment) (w : Entry) (intent : IntentValue) (votes : List HeldVote) → IsOpen now.nodes w → 1 ≤ shards
      → ((s : ℕ) → s < shards → (found : List Record) × left (shard s) found)
      → IsUndecided shards left now w → IsRightIntent shards left now w intent → All (IsRightVote shards left now w) votes
      → ((s : ℕ) → s < shards → takes_part shards s w ≡ true → (v : HeldVote) × Contains votes v × (v.shard ≡ s))
      → IsPreparedInAll shards (at_shards (leaves left now.nodes)) w × HoldAfter now.machine.log w.conditions

  -- what the flow that decides holds after it: the decision instead of the intent and the votes
  abbrev pub with_place : WriteHolds → DecidedValue → WriteHolds
  with_place h d = record h { intent = None; votes = []; decided = Some d }

  -- it is right as well: a flow on its way, of this very write
  abbrev pub DecidersStand : Type 0
  DecidersStand = (now : Moment) (next : Nodes) (place : ℕ) (w : Entry) (f : Running) (h : WriteHolds) → IsDeciding now next place w
      → IsRightWrite shards left now f w.changes w.conditions h → h.id ≡ Some w.id → h.way ≡ onward → place ≡ length now.machine.log + 1
      → let d : DecidedValue = record { place = place; epoch = w.id.epoch } in
      IsRightWrite shards left (with_decision now next w) (record f { decided = Some d }) w.changes w.conditions (with_place h d)

  -- a running flow of this write, on its way to the decision
  pub record IsDecider (now : Moment) (r : Running) (h : WriteHolds) (w : Entry) : Type 0 where
    pub running : Contains now.running r
    pub asked : r.asked ≡ to_write w.changes w.conditions
    pub holds : r.holds ≡ writing h
    pub id : h.id ≡ Some w.id
    pub onward_still : h.way ≡ onward

  -- the flow after its decision
  abbrev pub with_decided : Moment → Running → WriteHolds → Entry → Running
  with_decided now r h w =
      let d : DecidedValue = record { place = length now.machine.log + 1; epoch = w.id.epoch } in
      record r { holds = writing (with_place h d); decided = Some d; seen = r.seen ++ with_write now.machine w ∷ [] }
