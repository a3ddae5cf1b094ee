use Rattle.owners.proofs.GoingOn.{opens}
use Rattle.owners.proofs.owners.Owners.open.Goals as goal

pub step_alone-requires-clause-goes_on : goal.step_alone-requires-clause-goes_on
step_alone-requires-clause-goes_on g c = rw c.requires.first (opens _ _ c.requires.found.0 c.requires.found.1)
