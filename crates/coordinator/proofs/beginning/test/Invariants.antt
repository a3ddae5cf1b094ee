use Rattle.std.proofs.Common.{◌≡◌, ◌<◌, ℕ, Some, slice_get}
use Rattle.tuples.specs.declared.change.Condition.{Condition}
use Rattle.coordinator.specs.Ranges.{IsBetween}
use Rattle.coordinator.proofs.beginning.test.Given as goal

abbrev pub invariant-loop-condition : goal.invariant-loop-condition
invariant-loop-condition l = (i : ℕ) (c : Condition) → i < l.condition-index → slice_get l.conditions i ≡ Some c → IsBetween l.horizon l.end c.want
