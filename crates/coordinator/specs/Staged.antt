-- What a coordinator stages: decisions, and horizons that rise.
use Rattle.std.specs.Prelude.{◌≤◌, ◌+◌, ℕ, List, [], ◌∷◌, Option, Some}
use Rattle.tuples.specs.declared.entry.Entry.{Entry}
use Rattle.records.specs.declared.record.Record.{Record}
use Rattle.records.specs.declared.record.Record.TheVariants.{Prepare, Learned, Dropped, Epoch, Decision, Horizon, Checkpoint}

-- the decisions among these records
abbrev pub decided : List Record → List Entry
decided [] = []
decided (Prepare w ∷ rs) = decided rs
decided (Learned to placed_ids ∷ rs) = decided rs
decided (Dropped id ∷ rs) = decided rs
decided (Checkpoint mark ∷ rs) = decided rs
decided (Epoch epoch store shards node ∷ rs) = decided rs
decided (Decision place w ∷ rs) = w ∷ decided rs
decided (Horizon place ∷ rs) = decided rs

-- the last horizon among these records; if there is none, the one before them
abbrev pub last_horizon : Option ℕ → List Record → Option ℕ
last_horizon before [] = before
last_horizon before (Prepare w ∷ rs) = last_horizon before rs
last_horizon before (Learned to placed_ids ∷ rs) = last_horizon before rs
last_horizon before (Dropped id ∷ rs) = last_horizon before rs
last_horizon before (Checkpoint mark ∷ rs) = last_horizon before rs
last_horizon before (Epoch epoch store shards node ∷ rs) = last_horizon before rs
last_horizon before (Decision place w ∷ rs) = last_horizon before rs
last_horizon before (Horizon place ∷ rs) = last_horizon (Some place) rs

-- decisions, and horizons from one place on up to another, each above the one before
abbrev pub AreInOrder : ℕ → ℕ → List Record → Type 0
AreInOrder low high [] = Unit {0}
AreInOrder low high (Prepare w ∷ rs) = ⊥
AreInOrder low high (Learned to placed_ids ∷ rs) = ⊥
AreInOrder low high (Dropped id ∷ rs) = ⊥
AreInOrder low high (Checkpoint mark ∷ rs) = ⊥
AreInOrder low high (Epoch epoch store shards node ∷ rs) = ⊥
AreInOrder low high (Decision place w ∷ rs) = AreInOrder low high rs
AreInOrder low high (Horizon place ∷ rs) = (low ≤ place) × (place ≤ high) × AreInOrder (place + 1) high rs
