use Rattle.std.specs.Prelude.{[], Some}
use Rattle.joint.proofs.tests.issue.Given as goal

abbrev pub ghosts-issue_with : goal.ghosts-issue_with
ghosts-issue_with a = record { goods = Some 3; facts = [] }
