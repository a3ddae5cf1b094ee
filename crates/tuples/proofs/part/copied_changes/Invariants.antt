use Rattle.std.proofs.Common.{◌≡◌, ◌++◌}
use Rattle.tuples.proofs.part.copied_changes.Given as goal

-- what was copied and what is to come are the part
abbrev pub invariant-loop-change : goal.invariant-loop-change
invariant-loop-change l = l.copies.items ++ l.change-iterator ≡ l.fn.part
