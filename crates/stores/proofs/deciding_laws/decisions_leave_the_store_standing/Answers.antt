use Rattle.stores.proofs.DecisionFlows.{decisions_stand}
use Rattle.stores.proofs.deciding_laws.decisions_leave_the_store_standing.Goals as goal

pub returns : goal.returns
returns g c = λ store shards. decisions_stand store shards g.W.Leavings.left
