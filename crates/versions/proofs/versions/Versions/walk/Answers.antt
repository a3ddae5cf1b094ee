use Rattle.std.proofs.Common.{subst}
use Rattle.versions.specs.Walks.{IsInOrder}
use Rattle.versions.proofs.Walked.{listed_in_order}
use Rattle.versions.proofs.versions.Versions.walk.Goals as goal

pub returns-clause-in_order : goal.returns-clause-in_order
returns-clause-in_order c = subst IsInOrder c.self.view_is (listed_in_order c.self.inside.rows.entries c.self.invariant.0)
