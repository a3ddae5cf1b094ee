-- A checkpoint of a coordinator.
use Rattle.std.specs.Prelude.{◌≡◌, ◌⊎◌, ◌+◌, ℕ, List, Some}
use Rattle.records.specs.Checkpoints.{coordinator_checkpoint, generation_of}
use Rattle.records.specs.Identity.{Identity, coordinator_number}
use Rattle.records.specs.declared.record.Record.{Record}
use Rattle.journal.specs.Records.{HasOldOrNew, found}
use Rattle.decisions.specs.Coordinators.{CoordinatorView, memory_of}

-- the checkpoint of what it knows, of the next generation
abbrev pub next_checkpoint : {D : Type 0} → CoordinatorView D → List Record
next_checkpoint v = coordinator_checkpoint v.me (generation_of v.durable + 1) (memory_of v)

-- the contents have the durable records, with what is staged or without, or that checkpoint
abbrev pub HasOldNewOrPoint : {D : Type 0} → CoordinatorView D → List ℕ → List ℕ → Type 0
HasOldNewOrPoint v x y = HasOldOrNew v.durable v.staged x y ⊎ (found x y ≡ Some (next_checkpoint v))

-- the coordinator of a store of this many shards
abbrev pub coordinator_of : ℕ → ℕ → Identity
coordinator_of store shards = record { store = store; shards = shards; node = coordinator_number }

-- the first checkpoint of the coordinator of a store with the same id and this many shards, of what this one knows
abbrev pub carried_checkpoint : {D : Type 0} → ℕ → CoordinatorView D → List Record
carried_checkpoint shards v = coordinator_checkpoint (coordinator_of v.me.store shards) 1 (memory_of v)
