-- What the passes of the queue's two ends stand for.
use Rattle.std.specs.Prelude.{◌≡◌, ℕ, List, Option, Some}
use Rattle.atomic_table.specs.Seated.{TableId}

-- the acceptor's queue, how many connections were put, how many passes the queue has, this one among them, and the numbers that the acceptor was told were taken
pub record Putting : Type 0 where
  pub queue : TableId
  pub put : ℕ
  pub passes : ℕ
  pub told : List ℕ

-- how many connections were put in all, and how many passes the queue has
pub record End : Type 0 where
  pub put : ℕ
  pub passes : ℕ

-- a worker's queue, how many passes are gathered in this one, the numbers that they took, and the end, if the acceptor's is among them
pub record Taking : Type 0 where
  pub queue : TableId
  pub passes : ℕ
  pub taken : List ℕ
  pub end : Option End

-- all passes of the queue are gathered in this one, and so many connections were put
abbrev pub IsWhole : Taking → ℕ → Type 0
IsWhole pass put = pass.end ≡ Some (record { put = put; passes = pass.passes })
