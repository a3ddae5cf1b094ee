-- Laws of flows that begin, of writes that begin, and of flows that end: the store still stands for the same machine.
use Rattle.std.specs.Prelude.{◌≡◌, ◌<◌, ◌+◌, ℕ, List, [], ◌∷◌, ◌++◌, length, Some, None, Contains}
use Rattle.tuples.specs.declared.entry.Entry.{Entry}
use Rattle.tuples.specs.Limits.{max_flows, max_open}
use Rattle.records.specs.declared.record.Record.{Record}
use Rattle.records.specs.Coordinators.{CoordinatorState}
use Rattle.laws.specs.Nodes.{NodeName, Nodes, CoordinatorKnows}
use Rattle.stores.specs.Flows.{Asked, WriteHolds, id_of, named_by, to_write, writing}
use Rattle.stores.specs.Held.{IsRight}
use Rattle.stores.specs.Moments.{Moment, Running, begun, ended, flow_at, replaced}
use Rattle.stores.specs.Stands.{HasSeenBelow, IsQuietFlow, Stands}

-- the moment with one more flow, in this slot
abbrev pub with_flow : Moment → ℕ → Asked → Moment
with_flow now slot asked = record now { running = begun slot asked ∷ now.running; named = named_by asked ++ now.named }

-- the moment without the flow in this slot
abbrev pub without_flow : Moment → ℕ → Moment
without_flow now slot = record now { running = ended slot now.running }

-- The store has this id and this many shards, and a stop may leave this of each node, except for what is staged.
module _ (store shards : ℕ) (left : NodeName → List Record → Type 0) where
  -- a flow begins in a free slot, if fewer than 1,024 run
  abbrev pub FlowsBegin : Type 0
  FlowsBegin = (now : Moment) (slot : ℕ) (asked : Asked) → flow_at slot now.running ≡ None → length now.running < max_flows
      → Stands store shards left now → Stands store shards left (with_flow now slot asked)

  -- a flow ends
  abbrev pub FlowsEnd : Type 0
  FlowsEnd = (now : Moment) (slot : ℕ) → Stands store shards left now → Stands store shards left (without_flow now slot)

  -- the coordinator with one more open write, under the next number of its epoch
  abbrev pub with_open : Nodes → Entry → Nodes
  with_open nodes w = record nodes { open_writes = w ∷ nodes.open_writes; given = nodes.given + 1 }

  -- a write flow that has no id yet begins its write at a coordinator that is up and has room for it: under its next id
  pub record IsBegin (now : Moment) (r : Running) (h : WriteHolds) (w : Entry) : Type 0 where
    pub kept : CoordinatorState
    pub memory : CoordinatorState
    pub knows : CoordinatorKnows now.nodes kept memory
    pub room : length now.nodes.open_writes < max_open
    pub epoch : w.id.epoch ≡ memory.epoch
    pub number : w.id.number ≡ now.nodes.given + 1
    pub running : Contains now.running r
    pub asked : r.asked ≡ to_write w.changes w.conditions
    pub holds : r.holds ≡ writing h
    pub unbegun : h.id ≡ None
    pub undecided : r.decided ≡ None

  -- the flow after it, with its intent
  abbrev pub with_intent : Moment → Running → WriteHolds → Entry → Running
  with_intent now r h w = record r {
    holds = writing (record h { id = Some w.id; intent = Some (record { write = w; kept = now.machine.kept }) });
    seen = r.seen ++ now.machine ∷ [];
  }

  -- a write begins
  abbrev pub WritesBegin : Type 0
  WritesBegin = (now : Moment) (r : Running) (h : WriteHolds) (w : Entry) → IsBegin now r h w → Stands store shards left now
      → Stands store shards left (record now { nodes = with_open now.nodes w; running = replaced (with_intent now r h w) now.running })

  -- A flow goes on over the same machine and nodes: in its slot, with the write that it had, having seen what lies at or below the machine, and
  -- holding what is right.
  abbrev pub FlowsGoOn : Type 0
  FlowsGoOn = (now : Moment) (r later : Running) → Stands store shards left now → Contains now.running r → later.slot ≡ r.slot → id_of later.holds ≡ id_of r.holds
      → HasSeenBelow now.machine later → IsQuietFlow later → IsRight shards left now later later.asked later.holds → Stands store shards left (record now { running = replaced later now.running })
