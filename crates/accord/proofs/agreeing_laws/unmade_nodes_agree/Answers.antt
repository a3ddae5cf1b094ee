use Rattle.accord.proofs.Unmade.{unmade_nodes_agree}
use Rattle.accord.proofs.agreeing_laws.unmade_nodes_agree.Goals as goal

pub returns : goal.returns
returns c = unmade_nodes_agree
