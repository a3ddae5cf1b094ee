-- A stop inside a step: what the nodes are left with means the log, wherever the step was.
use Rattle.std.specs.Prelude.{◌⊎◌, ◌≤◌, ℕ, List, length, take}
use Rattle.tuples.specs.declared.entry.Entry.{Entry}
use Rattle.records.specs.declared.record.Record.{Record}
use Rattle.laws.specs.Worlds.{Means}
use Rattle.laws.specs.Machines.{Machine}

-- these records of the coordinator, with whatever is left of the shards, mean a beginning of this log that holds what was kept
pub record MeansOne (store shards : ℕ) (log : List Entry) (kept h : ℕ) (found : List Record) (at_shard : ℕ → List Record → Type 0) : Type 0 where
  pub n : ℕ
  pub holds : kept ≤ n
  pub within : n ≤ length log
  pub means : Means store shards (take n log) h found at_shard

-- A stop at any moment of a step leaves these of the coordinator and of the shards: they mean a beginning of the log from before the step, or
-- of the one after it, that holds what was kept before; with the horizon from before.
abbrev pub RestsBetween : ℕ → ℕ → Machine → Machine → (List Record → Type 0) → (ℕ → List Record → Type 0) → Type 0
RestsBetween store shards before after at_coordinator at_shard = (found : List Record) → at_coordinator found
    → MeansOne store shards before.log before.kept before.horizon found at_shard ⊎ MeansOne store shards after.log before.kept before.horizon found at_shard
