use Rattle.flow_ties.proofs.SeenCares.{cares_go_on}
use Rattle.flow_ties.proofs.care_laws.cares_go_on.Goals as goal

pub returns : goal.returns
returns c = cares_go_on
