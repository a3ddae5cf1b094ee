-- A law of a store that is closed: once it is known what its coordinator finds, it stands with all nodes down, so that each may be opened.
use Rattle.std.specs.Prelude.{◌≡◌, ◌≤◌, ℕ, List, [], All}
use Rattle.records.specs.declared.record.Record.{Record}
use Rattle.records.specs.Coordinators.{coordinator_state}
use Rattle.laws.specs.Worlds.{Rests}
use Rattle.laws.specs.Machines.{Machine, Move, Moves}
use Rattle.stores.specs.Moments.{Moment}
use Rattle.laws.specs.Nodes.{NodeName, Nodes, coordinator, down, shard}
use Rattle.stores.specs.Stands.{Stands, at_shards}
use Rattle.turns.specs.RestartLaws.{cut_to}
use Rattle.turns.specs.Runs.{IsOfOpening}

-- all nodes are down
abbrev pub closed_nodes : Nodes
closed_nodes = record { at = λ n. down; open_writes = []; given = 0 }

-- a store that is closed, at a machine: no flow runs, and nobody was told anything
abbrev pub closed_at : Machine → Moment
closed_at m = record { machine = m; nodes = closed_nodes; running = []; told = []; named = [] }

-- a stop leaves of the coordinator only what was found, which it could leave before, and of a shard no more than before
pub record FindsCoordinator (left after : NodeName → List Record → Type 0) (found : List Record) : Type 0 where
  pub was_left : left coordinator found
  pub here : (rs : List Record) → after coordinator rs → rs ≡ found
  pub same : (s : ℕ) (rs : List Record) → after (shard s) rs → left (shard s) rs

-- the store stands, closed, for the machine cut to what was found: by moves of an opening, with a horizon that a record named
abbrev pub ClosedStoresStand : ℕ → ℕ → (NodeName → List Record → Type 0) → (NodeName → List Record → Type 0) → Type 0
ClosedStoresStand store shards left after = (m : Machine) (found : List Record) → Rests store shards m.log m.kept m.horizon (left coordinator) (at_shards left)
    → FindsCoordinator left after found
    → Stands store shards after (closed_at (cut_to m (coordinator_state found)))
    × ((moves : List Move) × Moves m moves (cut_to m (coordinator_state found)) × All (IsOfOpening (λ x. (1 ≤ x) × ((coordinator_state found).horizon ≡ x))) moves)
