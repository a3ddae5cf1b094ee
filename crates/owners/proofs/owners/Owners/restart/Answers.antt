use Rattle.owners.proofs.GoingOn.{restarts}
use Rattle.owners.proofs.owners.Owners.restart.Goals as goal

pub step_alone-requires-clause-goes_on : goal.step_alone-requires-clause-goes_on
step_alone-requires-clause-goes_on g c = restarts _ _ _ c.requires.later
