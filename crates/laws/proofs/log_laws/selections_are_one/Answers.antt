use Rattle.laws.proofs.Selections.{selections_are_one}
use Rattle.laws.proofs.log_laws.selections_are_one.Goals as goal

pub returns : goal.returns
returns c = selections_are_one
