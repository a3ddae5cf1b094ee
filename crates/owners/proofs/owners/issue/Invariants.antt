use Rattle.std.specs.Prelude.{[], Some}
use Rattle.owners.proofs.owners.issue.Given as goal

abbrev pub ghosts-issue_to : goal.ghosts-issue_to
ghosts-issue_to a = record { goods = Some []; facts = [] }
