use Rattle.accord.proofs.Owners.{owners_decide}
use Rattle.accord.proofs.owning_laws.owners_decide.Goals as goal

pub returns : goal.returns
returns c = owners_decide
