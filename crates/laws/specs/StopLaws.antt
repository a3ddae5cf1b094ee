-- Laws of what a stop may leave: less of it, other places that are kept, and a store that is empty.
use Rattle.std.specs.Prelude.{◌≡◌, ◌⊎◌, ◌≤◌, ◌↔◌, ℕ, List, [], ◌∷◌, ◌++◌, length, ◌<◌}
use Rattle.tuples.specs.declared.entry.Entry.{Entry}
use Rattle.records.specs.Identity.{coordinator_number}
use Rattle.records.specs.declared.record.Record.{Record}
use Rattle.records.specs.declared.record.Record.TheVariants.{Epoch}
use Rattle.records.specs.Coordinators.{coordinator_state}
use Rattle.laws.specs.Worlds.{IsLog, Means, Rests, WithStaged}

-- a stop leaves nothing that it could not leave before
abbrev pub LeavesLess : (List Record → Type 0) → (List Record → Type 0) → Type 0
LeavesLess old new = (found : List Record) → new found → old found

-- nor at any shard
abbrev pub LeavesLessAt : (ℕ → List Record → Type 0) → (ℕ → List Record → Type 0) → Type 0
LeavesLessAt old new = (s : ℕ) (found : List Record) → new s found → old s found

-- Given what a stop may leave of the coordinator and of the shards, before a step and after it
module _ (old new : List Record → Type 0) (shard shard_after : ℕ → List Record → Type 0) where
  -- if a stop leaves less, all nodes stay at rest, and what the coordinator knows of the whole log is still meant
  abbrev pub LessRests : Type 0
  LessRests = (store shards : ℕ) (log : List Entry) (kept h : ℕ) → LeavesLess old new → LeavesLessAt shard shard_after
      → (Rests store shards log kept h old shard → Rests store shards log kept h new shard_after)
      × ((records : List Record) → Means store shards log h records shard → Means store shards log h records shard_after)

  -- A flush leaves less, whether it answered Ok or not: with what is staged or without was counted before. So does a stop.
  abbrev pub FlushesLeaveLess : Type 0
  FlushesLeaveLess = (durable staged : List Record) → old durable → ((found : List Record) → new found → (found ≡ durable) ⊎ (found ≡ durable ++ staged))
      → LeavesLess (WithStaged old staged) (WithStaged new [])

  -- the horizon of the whole store may rise as far as the coordinator's in whatever a stop leaves of it
  abbrev pub HorizonRises : Type 0
  HorizonRises = (store shards : ℕ) (log : List Entry) (kept h later : ℕ) → h ≤ later → later ≤ kept
      → ((found : List Record) → old found → later ≤ (coordinator_state found).horizon)
      → Rests store shards log kept h old shard → Rests store shards log kept later old shard

  -- records of the coordinator mean the whole log if, left alone, they rest with all of it kept
  abbrev pub WholeRests : Type 0
  WholeRests = (store shards : ℕ) (log : List Entry) (h : ℕ) (records : List Record) → IsLog log → h ≤ length log
      → Means store shards log h records shard ↔ Rests store shards log (length log) h (λ found. found ≡ records) shard

  -- unmade devices, or those of nodes that were opened once, rest for the empty log
  abbrev pub EmptyRests : Type 0
  EmptyRests = (store shards : ℕ)
      → ((found : List Record) → old found → (found ≡ []) ⊎ (found ≡ Epoch 1 store shards coordinator_number ∷ []))
      → ((s : ℕ) (found : List Record) → s < shards → shard s found → (found ≡ []) ⊎ (found ≡ Epoch 1 store shards s ∷ []))
      → Rests store shards [] 0 0 old shard
