-- A store that was just made: each node opened once over unmade devices.
use Rattle.std.specs.Prelude.{◌≡◌, ℕ, List, [], ◌∷◌}
use Rattle.records.specs.Identity.{coordinator_number}
use Rattle.records.specs.declared.record.Record.{Record}
use Rattle.records.specs.declared.record.Record.TheVariants.{Epoch}
use Rattle.laws.specs.Machines.{Machine}
use Rattle.laws.specs.Nodes.{NodeName, coordinator, shard, up, Nodes}
use Rattle.stores.specs.Moments.{Moment}
use Rattle.stores.specs.Stands.{Stands}

-- no write, and nothing kept
abbrev pub empty_machine : Machine
empty_machine = record { log = []; kept = 0; horizon = 0 }

-- the one record of a node that was opened once
abbrev pub opening_of : ℕ → ℕ → NodeName → List Record
opening_of store shards coordinator = Epoch 1 store shards coordinator_number ∷ []
opening_of store shards (shard s) = Epoch 1 store shards s ∷ []

-- each node up with it
abbrev pub opened_nodes : ℕ → ℕ → Nodes
opened_nodes store shards = record { at = λ n. up (opening_of store shards n) []; open_writes = []; given = 0 }

-- no flow runs, and nobody was told anything
abbrev pub opened : ℕ → ℕ → Moment
opened store shards = record { machine = empty_machine; nodes = opened_nodes store shards; running = []; told = []; named = [] }

-- a stop leaves it
abbrev pub only_opened : ℕ → ℕ → NodeName → List Record → Type 0
only_opened store shards n found = found ≡ opening_of store shards n

-- a new store stands for the empty log
abbrev pub NewStoresStand : Type 0
NewStoresStand = (store shards : ℕ) → Stands store shards (only_opened store shards) (opened store shards)
