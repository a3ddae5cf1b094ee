use Rattle.stores.proofs.FlowBegins.{flows_begin}
use Rattle.stores.proofs.flow_laws.flows_that_begin_leave_the_store_standing.Goals as goal

pub returns : goal.returns
returns g c = λ store shards. flows_begin store shards g.W.Leavings.left
