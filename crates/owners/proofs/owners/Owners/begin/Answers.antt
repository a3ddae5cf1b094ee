use Rattle.owners.proofs.GoingOn.{begins}
use Rattle.owners.proofs.owners.Owners.begin.Goals as goal

pub step_with-requires-clause-goes_on : goal.step_with-requires-clause-goes_on
step_with-requires-clause-goes_on g c = begins _ _ _ c.requires.next
