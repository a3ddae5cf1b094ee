use Rattle.std.proofs.Common.{◌≡◌, ◌++◌}
use Rattle.tuples.proofs.part.copied_conditions.Given as goal

-- what was copied and what is to come are the part
abbrev pub invariant-loop-condition : goal.invariant-loop-condition
invariant-loop-condition l = l.copies.items ++ l.condition-iterator ≡ l.fn.part
