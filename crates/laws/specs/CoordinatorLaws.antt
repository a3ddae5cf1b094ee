-- Laws of the coordinator's steps: with one more record at the coordinator, all nodes still mean the log, or the log with one more write.
use Rattle.std.specs.Prelude.{◌≡◌, ◌⊎◌, ◌≤◌, ◌<◌, ℕ, List, [], ◌∷◌, ◌++◌, length, take}
use Rattle.tuples.specs.declared.entry.Entry.{Entry}
use Rattle.tuples.specs.Changes.{IsWrite}
use Rattle.tuples.specs.Log.{HoldAfter}
use Rattle.tuples.specs.Parts.{expected}
use Rattle.records.specs.Identity.{coordinator_number}
use Rattle.records.specs.declared.record.Record.{Record}
use Rattle.records.specs.declared.record.Record.TheVariants.{Decision, Epoch, Horizon}
use Rattle.records.specs.Coordinators.{IsCoordinatorImage, coordinator_state, end_of}
use Rattle.records.specs.Replays.{find_in_doubt, shard_state}
use Rattle.laws.specs.LogLaws.{IsUnlisted}
use Rattle.laws.specs.Worlds.{AddsOne, Means, Rests, coordinator_node}

-- All nodes are at rest, a stop may leave these records of the coordinator, and with one more they are still a coordinator's; from then
-- on a stop may leave that of it, besides what it could leave before.
pub record IsCoordinatorStep (store shards : ℕ) (log : List Entry) (kept h : ℕ) (old : List Record → Type 0) (shard : ℕ → List Record → Type 0)
    (records : List Record) (r : Record) (new : List Record → Type 0) : Type 0 where
  pub rests : Rests store shards log kept h old shard
  pub here : old records
  pub image : IsCoordinatorImage (coordinator_node store shards) (records ++ r ∷ [])
  pub adds : AddsOne old records r new

-- whatever a stop leaves of a shard has its part of the write in doubt, if it has one
abbrev pub IsPreparedInAll : ℕ → (ℕ → List Record → Type 0) → Entry → Type 0
IsPreparedInAll shards shard w = (s : ℕ) (found : List Record) → s < shards → shard s found → find_in_doubt w.id (shard_state found).in_doubt ≡ expected shards s w

-- a write may be listed next: whole, under an id of its own that was given, prepared in whatever a stop leaves, its conditions holding
pub record MayBeListed (shards : ℕ) (log : List Entry) (records : List Record) (shard : ℕ → List Record → Type 0) (w : Entry) : Type 0 where
  pub whole : IsWrite w.changes w.conditions
  pub new : IsUnlisted w.id log
  pub given : w.id.epoch ≤ (coordinator_state records).epoch
  pub prepared : IsPreparedInAll shards shard w
  pub conditions : HoldAfter log w.conditions

-- whatever a stop leaves of a shard has learned up to the place
abbrev pub IsLearnedInAll : ℕ → (ℕ → List Record → Type 0) → ℕ → Type 0
IsLearnedInAll shards shard place = (s : ℕ) (found : List Record) → s < shards → shard s found → place ≤ (shard_state found).learned

-- Given what a stop may leave of the shards, and of the coordinator before and after a step of it
module _ (old new : List Record → Type 0) (shard : ℕ → List Record → Type 0) where
  -- a decision: the log has its write too
  abbrev pub DecisionsRest : Type 0
  DecisionsRest = (store shards : ℕ) (log : List Entry) (kept h : ℕ) (records : List Record) (place : ℕ) (w : Entry)
      → IsCoordinatorStep store shards log kept h old shard records (Decision place w) new
      → Means store shards log h records shard → MayBeListed shards log records shard w
      → Rests store shards (log ++ w ∷ []) kept h new shard × Means store shards (log ++ w ∷ []) h (records ++ Decision place w ∷ []) shard

  -- a horizon that each shard has learned up to: that of the whole store stays, until the record is in all that a stop leaves
  abbrev pub HorizonsRest : Type 0
  HorizonsRest = (store shards : ℕ) (log : List Entry) (kept h : ℕ) (records : List Record) (place : ℕ)
      → IsCoordinatorStep store shards log kept h old shard records (Horizon place) new
      → Means store shards log h records shard → IsLearnedInAll shards shard place
      → Rests store shards log kept h new shard × Means store shards log h (records ++ Horizon place ∷ []) shard

  -- an opening, while a stop may still leave what it could leave before
  abbrev pub OpeningsRest : Type 0
  OpeningsRest = (store shards : ℕ) (log : List Entry) (kept h : ℕ) (records : List Record) (epoch : ℕ)
      → IsCoordinatorStep store shards log kept h old shard records (Epoch epoch store shards coordinator_number) new
      → Rests store shards log kept h new shard

  -- an opening, once a stop leaves only what it found, with its record or without: the log is cut to what was found, and all of that is kept
  abbrev pub RestartsRest : Type 0
  RestartsRest = (store shards : ℕ) (log : List Entry) (kept h : ℕ) (records : List Record) (epoch : ℕ)
      → IsCoordinatorStep store shards log kept h old shard records (Epoch epoch store shards coordinator_number) new
      → ((found : List Record) → new found → (found ≡ records) ⊎ (found ≡ records ++ Epoch epoch store shards coordinator_number ∷ []))
      → let n = end_of (coordinator_state records) in
      (kept ≤ n) × (n ≤ length log) × Rests store shards (take n log) n h new shard × Means store shards (take n log) h (records ++ Epoch epoch store shards coordinator_number ∷ []) shard

  -- a flush that answered Ok: a stop leaves only the records that mean the whole log, so all of it is kept
  abbrev pub FlushesRest : Type 0
  FlushesRest = (store shards : ℕ) (log : List Entry) (kept h : ℕ) (records : List Record)
      → Rests store shards log kept h old shard → Means store shards log h records shard
      → ((found : List Record) → new found → found ≡ records)
      → Rests store shards log (length log) h new shard
