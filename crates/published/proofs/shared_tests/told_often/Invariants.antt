use Rattle.std.proofs.Common.{◌≡◌}
use Rattle.published.proofs.shared_tests.told_often.Given as goal

abbrev pub invariant-loop : goal.invariant-loop
invariant-loop g l = l.pass.table ≡ l.initial.pass.table
