-- What a pass stands for.
use Rattle.std.specs.Prelude.{ℕ, List}
use Rattle.atomic_table.specs.Seated.{TableId}

-- the words that a pass belongs to, the list of writes that it has seen, and a place that the horizon has reached
pub record Known (W : Type 0) : Type 0 where
  pub table : TableId
  pub seen : List W
  pub horizon : ℕ
