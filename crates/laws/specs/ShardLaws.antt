-- Laws of a shard's steps: with one more record at a shard, all nodes still mean the log.
use Rattle.std.specs.Prelude.{◌≡◌, ◌≤◌, ◌+◌, ℕ, List, [], ◌∷◌, ◌++◌, length, take, drop, Some, slice_get}
use Rattle.tuples.specs.declared.entry.Entry.{Entry}
use Rattle.tuples.specs.declared.entry.WriteId.{WriteId}
use Rattle.records.specs.declared.record.Record.{Record}
use Rattle.records.specs.declared.record.Record.TheVariants.{Prepare, Dropped, Epoch, Horizon}
use Rattle.records.specs.Coordinators.{coordinator_state}
use Rattle.records.specs.Replays.{IsShardImage, shard_state}
use Rattle.shard.specs.Shards.{learning}
use Rattle.laws.specs.LogLaws.{IsUnlisted}
use Rattle.laws.specs.Worlds.{AddsOneAt, Rests, shard_node}

-- All nodes are at rest, a stop may leave these records of shard s, and with one more they are still a shard's; from then on a stop may
-- leave that of it, besides what it could leave before.
pub record IsShardStep (store shards : ℕ) (log : List Entry) (kept h : ℕ) (coordinator : List Record → Type 0) (old : ℕ → List Record → Type 0)
    (s : ℕ) (records : List Record) (r : Record) (new : ℕ → List Record → Type 0) : Type 0 where
  pub rests : Rests store shards log kept h coordinator old
  pub here : old s records
  pub image : IsShardImage (shard_node store shards s) (records ++ r ∷ [])
  pub adds : AddsOneAt s old records r new

-- a stop leaves only records of the coordinator that are of this epoch or a later one
abbrev pub IsEpochGiven : (List Record → Type 0) → ℕ → Type 0
IsEpochGiven coordinator epoch = (found : List Record) → coordinator found → epoch ≤ (coordinator_state found).epoch

-- no write of the log above the horizon has this id (its place less one is j)
abbrev pub IsUnlistedAbove : ℕ → WriteId → List Entry → Type 0
IsUnlistedAbove h id log = (j : ℕ) (w : Entry) → slice_get log j ≡ Some w → h ≤ j → id ≡ w.id → ⊥

-- these writes are those of the log after a place
abbrev pub AreOfLog : List Entry → ℕ → List Entry → Type 0
AreOfLog log from writes = writes ≡ take (length writes) (drop from log)

-- Given what a stop may leave of the coordinator, and of the shards before and after a step of one of them: one more record leaves all
-- nodes at rest, if it is
module _ (coordinator : List Record → Type 0) (old new : ℕ → List Record → Type 0) where
  -- a prepare of a write that is not listed, under an id that was given
  abbrev pub PreparesRest : Type 0
  PreparesRest = (store shards : ℕ) (log : List Entry) (kept h : ℕ) (s : ℕ) (records : List Record) (w : Entry)
      → IsShardStep store shards log kept h coordinator old s records (Prepare w) new
      → IsUnlisted w.id log → IsEpochGiven coordinator w.id.epoch
      → Rests store shards log kept h coordinator new

  -- a drop of a write that is not listed above the horizon
  abbrev pub DropsRest : Type 0
  DropsRest = (store shards : ℕ) (log : List Entry) (kept h : ℕ) (s : ℕ) (records : List Record) (id : WriteId)
      → IsShardStep store shards log kept h coordinator old s records (Dropped id) new
      → IsUnlistedAbove h id log
      → Rests store shards log kept h coordinator new

  -- the record of learning writes of the log that are kept, from a place that is learned up to one that is not passed
  abbrev pub LearnsRest : Type 0
  LearnsRest = (store shards : ℕ) (log : List Entry) (kept h : ℕ) (s : ℕ) (records : List Record) (from : ℕ) (writes : List Entry)
      → IsShardStep store shards log kept h coordinator old s records (learning (shard_node store shards s) (shard_state records) from writes) new
      → AreOfLog log from writes → from + length writes ≤ kept
      → from ≤ (shard_state records).learned → (shard_state records).learned ≤ from + length writes
      → Rests store shards log kept h coordinator new

  -- a horizon at or below that of the whole store
  abbrev pub CollectsRest : Type 0
  CollectsRest = (store shards : ℕ) (log : List Entry) (kept h : ℕ) (s : ℕ) (records : List Record) (place : ℕ)
      → IsShardStep store shards log kept h coordinator old s records (Horizon place) new
      → place ≤ h
      → Rests store shards log kept h coordinator new

  -- an opening
  abbrev pub ShardOpeningsRest : Type 0
  ShardOpeningsRest = (store shards : ℕ) (log : List Entry) (kept h : ℕ) (s : ℕ) (records : List Record) (epoch : ℕ)
      → IsShardStep store shards log kept h coordinator old s records (Epoch epoch store shards s) new
      → Rests store shards log kept h coordinator new
