use Rattle.stores.proofs.FlowGoesOn.{flows_go_on}
use Rattle.stores.proofs.flow_laws.flows_that_go_on_leave_the_store_standing.Goals as goal

pub returns : goal.returns
returns g c = λ store shards. flows_go_on store shards g.W.Leavings.left
