use Rattle.laws.proofs.Selections.{selections_ascend}
use Rattle.laws.proofs.log_laws.selections_ascend.Goals as goal

pub returns : goal.returns
returns c = selections_ascend
