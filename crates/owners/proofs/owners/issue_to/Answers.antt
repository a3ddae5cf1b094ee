use Rattle.owners.proofs.Holding.{admits}
use Rattle.owners.proofs.owners.issue_to.Goals as goal

pub issue-requires-clause-admits : goal.issue-requires-clause-admits
issue-requires-clause-admits g c = rw (c.requires.nothing.0, c.requires.nothing.1) (admits _)
