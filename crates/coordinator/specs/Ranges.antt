-- The places that conditions name, against the end of a log and its horizon.
use Rattle.std.specs.Prelude.{◌≡◌, ◌≤◌, ◌<◌, ℕ, List, Some, Contains, slice_get}
use Rattle.tuples.specs.declared.change.Condition.{Condition}
use Rattle.tuples.specs.declared.change.Want.{Want}
use Rattle.decisions.specs.Values.{SettledValue}
use Rattle.tuples.specs.declared.change.Want.TheVariants.{NotAfter, Exists, Absent}

-- what is wanted names a place above the end
abbrev pub IsAbove : ℕ → Want → Type 0
IsAbove end (NotAfter place) = end < place
IsAbove end Exists = ⊥
IsAbove end Absent = ⊥

-- what is wanted names a place below the horizon
abbrev pub IsBelow : ℕ → Want → Type 0
IsBelow horizon (NotAfter place) = place < horizon
IsBelow horizon Exists = ⊥
IsBelow horizon Absent = ⊥

-- what is wanted names neither
pub record IsBetween (horizon end : ℕ) (want : Want) : Type 0 where
  pub above : IsBelow horizon want → ⊥
  pub below : IsAbove end want → ⊥

-- the first condition that names a place above the end or below the horizon is so
pub record FirstOut (horizon end : ℕ) (conditions : List Condition) (P : Want → Type 0) : Type 0 where
  pub index : ℕ
  pub condition : Condition
  pub there : slice_get conditions index ≡ Some condition
  pub is : P condition.want
  pub before : (i : ℕ) (c : Condition) → i < index → slice_get conditions i ≡ Some c → IsBetween horizon end c.want

-- the shard has settled at least to the place
abbrev pub HasSettled : ℕ → ℕ → List SettledValue → Type 0
HasSettled shard place settled = (x : SettledValue) × Contains settled x × (x.shard ≡ shard) × (place ≤ x.place)
