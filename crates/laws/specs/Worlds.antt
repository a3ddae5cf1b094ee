-- What all nodes together mean, whatever a stop leaves of them.
use Rattle.std.specs.Prelude.{◌≡◌, ◌⊎◌, ◌≤◌, ◌<◌, ℕ, List, [], ◌∷◌, ◌++◌, length, take, Some, slice_get}
use Rattle.tuples.specs.declared.entry.Entry.{Entry}
use Rattle.tuples.specs.declared.entry.WriteId.{WriteId}
use Rattle.tuples.specs.Changes.{IsWrite}
use Rattle.tuples.specs.Log.{AreNew, IsLegal}
use Rattle.records.specs.Identity.{coordinator_number}
use Rattle.records.specs.declared.record.Record.{Record}
use Rattle.records.specs.Replays.{Identity, IsShardImage, ShardState, find_in_doubt, shard_state}
use Rattle.records.specs.Coordinators.{CoordinatorState, IsCoordinatorImage, coordinator_state}
use Rattle.laws.specs.Shards.{ShardMeans}
use Rattle.laws.specs.Coordinators.{CoordinatorMeans}

-- shard s of a store of this many shards
abbrev pub shard_node : ℕ → ℕ → ℕ → Identity
shard_node store shards s = record { store = store; shards = shards; node = s }

-- the coordinator of a store of this many shards
abbrev pub coordinator_node : ℕ → ℕ → Identity
coordinator_node store shards = record { store = store; shards = shards; node = coordinator_number }

-- a list of whole writes
abbrev pub AreWhole : List Entry → Type 0
AreWhole log = (j : ℕ) (w : Entry) → slice_get log j ≡ Some w → IsWrite w.changes w.conditions

-- a list of whole writes under ids of their own, the conditions of each holding after those before it
pub record IsLog (log : List Entry) : Type 0 where
  pub whole : AreWhole log
  pub new : AreNew log
  pub legal : IsLegal log

-- each id in doubt was given in an epoch at or below this one
abbrev pub AreGivenInDoubt : ℕ → ShardState → Type 0
AreGivenInDoubt epoch state = (id : WriteId) (w : Entry) → find_in_doubt id state.in_doubt ≡ Some w → id.epoch ≤ epoch

-- one list of records of shard s means its part of the log, seen with what the coordinator's records stand for
pub record IsMeaning (store shards s : ℕ) (log : List Entry) (h : ℕ) (coordinator : CoordinatorState) (found : List Record) : Type 0 where
  pub image : IsShardImage (shard_node store shards s) found
  pub means : ShardMeans shards s log coordinator.horizon h (shard_state found)
  pub given : AreGivenInDoubt coordinator.epoch (shard_state found)

-- one list of records of the coordinator means the log, with each list that a stop may leave at each shard
pub record Means (store shards : ℕ) (log : List Entry) (h : ℕ) (coordinator : List Record) (shard : ℕ → List Record → Type 0) : Type 0 where
  pub image : IsCoordinatorImage (coordinator_node store shards) coordinator
  pub decided : CoordinatorMeans log h (coordinator_state coordinator)
  pub each_shard : (s : ℕ) (found : List Record) → s < shards → shard s found → IsMeaning store shards s log h (coordinator_state coordinator) found

-- Whatever a stop leaves of all nodes means a beginning of the log that holds what is kept.
pub record Rests (store shards : ℕ) (log : List Entry) (kept h : ℕ) (coordinator : List Record → Type 0) (shard : ℕ → List Record → Type 0) : Type 0 where
  pub is_log : IsLog log
  pub horizon : h ≤ kept
  pub within : kept ≤ length log
  pub each : (found : List Record) → coordinator found → (n : ℕ) × (kept ≤ n) × (n ≤ length log) × Means store shards (take n log) h found shard

-- what a stop leaves, with what is staged after it or without
abbrev pub WithStaged : (List Record → Type 0) → List Record → List Record → Type 0
WithStaged stops staged found = (before : List Record) × stops before × ((found ≡ before) ⊎ (found ≡ before ++ staged))

-- One more record at the coordinator: a stop leaves what it could leave before, or the records with this one.
abbrev pub AddsOne : (List Record → Type 0) → List Record → Record → (List Record → Type 0) → Type 0
AddsOne old records r new = (found : List Record) → new found → old found ⊎ (found ≡ records ++ r ∷ [])

-- One more record at shard s: a stop leaves what it could leave before, or, at this shard, its records with this one.
abbrev pub AddsOneAt : ℕ → (ℕ → List Record → Type 0) → List Record → Record → (ℕ → List Record → Type 0) → Type 0
AddsOneAt s old records r new = (t : ℕ) (found : List Record) → new t found → old t found ⊎ ((t ≡ s) × (found ≡ records ++ r ∷ []))
