-- A write as contracts see it.
use Rattle.std.specs.Prelude.{List}
use Rattle.tuples.specs.declared.change.Change.{Change}
use Rattle.tuples.specs.declared.change.Condition.{Condition}

-- its changes and conditions, in order
pub record WriteValue : Type 0 where
  pub changes : List Change
  pub conditions : List Condition
