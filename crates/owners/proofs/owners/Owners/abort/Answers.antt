use Rattle.owners.proofs.GoingOn.{aborts}
use Rattle.owners.proofs.owners.Owners.abort.Goals as goal

pub step_alone-requires-clause-goes_on : goal.step_alone-requires-clause-goes_on
step_alone-requires-clause-goes_on g c = aborts _ _
