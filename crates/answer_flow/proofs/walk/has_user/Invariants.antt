-- None of the rows so far is it.
use Rattle.std.proofs.Common.{take, Contains}
use Rattle.tuples.specs.Checking.{holding}
use Rattle.answer_flow.proofs.walk.has_user.Given as goal

abbrev pub invariant-loop-row : goal.invariant-loop-row
invariant-loop-row l = Contains (take l.row-index l.rows) (holding l.userset l.user) → ⊥
