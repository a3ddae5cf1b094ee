use Rattle.laws.proofs.BrokenConditions.{met_conditions_are_met_here}
use Rattle.laws.proofs.lock_laws.met_conditions_are_met_here.Goals as goal

pub returns : goal.returns
returns c = met_conditions_are_met_here
