use Rattle.stores.proofs.FlowEnds.{flows_end}
use Rattle.stores.proofs.flow_laws.flows_that_end_leave_the_store_standing.Goals as goal

pub returns : goal.returns
returns g c = λ store shards. flows_end store shards g.W.Leavings.left
