-- Laws of writes that the coordinator aborts, and of what it answers of a write.
use Rattle.std.specs.Prelude.{◌≡◌, ◌≢◌, ◌≤◌, ◌<◌, ◌+◌, ℕ, List, [], ◌∷◌, ◌++◌, Some, None, Contains, slice_get}
use Rattle.tuples.specs.declared.change.Change.{Change}
use Rattle.tuples.specs.declared.change.Condition.{Condition}
use Rattle.tuples.specs.declared.entry.Entry.{Entry}
use Rattle.tuples.specs.declared.entry.WriteId.{WriteId}
use Rattle.tuples.specs.Parts.{part}
use Rattle.records.specs.declared.record.Record.{Record}
use Rattle.records.specs.Coordinators.{CoordinatorState, end_of}
use Rattle.records.specs.Replays.{ShardState, find_in_doubt, without}
use Rattle.decisions.specs.Values.{IntentValue}
use Rattle.decisions.specs.Standing.{DecidedValue}
use Rattle.stores.specs.Causes.{IsCutOff}
use Rattle.laws.specs.Nodes.{CoordinatorKnows, NodeName, Nodes, ShardKnows}
use Rattle.stores.specs.Flows.{id_of, HeldTicket, WriteHolds, committed, to_write, writing}
use Rattle.stores.specs.Held.{IsOpen, IsRightVerdict, WasGiven}
use Rattle.stores.specs.Moments.{Moment, Running, replaced}
use Rattle.stores.specs.Replies.{IsResolved, IsWriteAnswer}
use Rattle.stores.specs.Stands.{Stands}

-- the coordinator without the open write of this id
abbrev pub with_closed : Nodes → WriteId → Nodes
with_closed nodes id = record nodes { open_writes = without id nodes.open_writes }

-- the flow of an aborted write after the abort: its intent is spent, and it has the verdict
abbrev pub with_verdict : Moment → Running → WriteHolds → Entry → Running
with_verdict now r h w = record r {
  holds = writing (record h { intent = None; verdict = Some w.id });
  seen = r.seen ++ now.machine ∷ [];
}

-- a running flow of this write that has made no decision
pub record IsUndecidedFlow (now : Moment) (r : Running) (h : WriteHolds) (w : Entry) : Type 0 where
  pub running : Contains now.running r
  pub asked : r.asked ≡ to_write w.changes w.conditions
  pub holds : r.holds ≡ writing h
  pub id : h.id ≡ Some w.id
  pub undecided : r.decided ≡ None

-- a running flow that has decided, and answers the place of its write once the durable decisions reach it
pub record IsOutcome (now : Moment) (r : Running) (h : WriteHolds) (changes : List Change) (conditions : List Condition) (d : DecidedValue) : Type 0 where
  pub running : Contains now.running r
  pub asked : r.asked ≡ to_write changes conditions
  pub holds : r.holds ≡ writing h
  pub decided : h.decided ≡ Some d
  pub kept : CoordinatorState
  pub memory : CoordinatorState
  pub knows : CoordinatorKnows now.nodes kept memory
  pub epoch : memory.epoch ≡ d.epoch
  pub reached : d.place ≤ end_of kept

-- the coordinator finds an id at no place above its durable horizon, staged decisions included, and no write with it open
pub record IsNotFound (nodes : Nodes) (kept memory : CoordinatorState) (id : WriteId) : Type 0 where
  pub knows : CoordinatorKnows nodes kept memory
  pub closed : (w : Entry) → IsOpen nodes w → w.id ≢ id
  pub none : (j : ℕ) (w : Entry) → slice_get memory.log j ≡ Some w → kept.horizon < memory.base + j + 1 → w.id ≢ id

-- The store has this id and this many shards, and a stop may leave this of each node, except for what is staged.
module _ (store shards : ℕ) (left : NodeName → List Record → Type 0) where
  -- a write that is aborted is open no longer, its flow has a right verdict, and the store stands
  abbrev pub AbortsStand : Type 0
  AbortsStand = (now : Moment) (r : Running) (h : WriteHolds) (w : Entry) → Stands store shards left now → IsUndecidedFlow now r h w
      → let after = record now { nodes = with_closed now.nodes w.id; running = replaced (with_verdict now r h w) now.running } in
      Stands store shards left after × IsRightVerdict shards left after w.id

  -- an id that was given out and is not found has a right verdict
  abbrev pub InquiriesAbort : Type 0
  InquiriesAbort = (now : Moment) (kept memory : CoordinatorState) (id : WriteId) → Stands store shards left now → IsNotFound now.nodes kept memory id
      → WasGiven shards left now.nodes id → IsRightVerdict shards left now id

  -- a durable decision stands in the log at its place, for good
  abbrev pub InquiriesFind : Type 0
  InquiriesFind = (now : Moment) (kept memory : CoordinatorState) (j : ℕ) (w : Entry) → Stands store shards left now → CoordinatorKnows now.nodes kept memory
      → slice_get kept.log j ≡ Some w → IsResolved now.machine (committed w.id (kept.base + j + 1))

  -- a flow that answers the place of its decision answers what agrees
  abbrev pub OutcomesAgree : Type 0
  OutcomesAgree = (now : Moment) (r later : Running) (h : WriteHolds) (changes : List Change) (conditions : List Condition) (d : DecidedValue) → Stands store shards left now
      → IsOutcome now r h changes conditions d → later.decided ≡ r.decided → id_of later.holds ≡ id_of r.holds → IsWriteAnswer later now.machine changes conditions d.place

  -- a flow with its intent whose write is not open was cut off by an opening of the coordinator
  abbrev pub RefusedIntents : Type 0
  RefusedIntents = (now : Moment) (r : Running) (h : WriteHolds) (w : Entry) (intent : IntentValue) → Stands store shards left now → IsUndecidedFlow now r h w
      → h.intent ≡ Some intent → (IsOpen now.nodes w → ⊥) → IsCutOff now.nodes r (writing h)

  -- a flow with its intent, and with a ticket of a shard that does not have the prepare, was cut off by an opening of the one or the other
  abbrev pub RefusedTickets : Type 0
  RefusedTickets = (now : Moment) (r : Running) (h : WriteHolds) (w : Entry) (intent : IntentValue) (t : HeldTicket) (memory : ShardState) → Stands store shards left now
      → IsUndecidedFlow now r h w → h.intent ≡ Some intent → Contains h.tickets t → ShardKnows now.nodes t.shard memory
      → (find_in_doubt t.id memory.in_doubt ≡ Some (part shards t.shard w) → ⊥) → IsCutOff now.nodes r (writing h)
