use Rattle.stores.proofs.DecisionFlows.{votes_prepare}
use Rattle.stores.proofs.deciding_laws.votes_prepare.Goals as goal

pub returns : goal.returns
returns g c = λ store shards. votes_prepare store shards g.W.Leavings.left
