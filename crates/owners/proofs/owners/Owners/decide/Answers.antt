use Rattle.owners.proofs.GoingOn.{decides}
use Rattle.owners.proofs.owners.Owners.decide.Goals as goal

pub step_with-requires-clause-goes_on : goal.step_with-requires-clause-goes_on
step_with-requires-clause-goes_on g c = rw c.requires.begun (decides _ _ _ _ c.requires.is_open)
