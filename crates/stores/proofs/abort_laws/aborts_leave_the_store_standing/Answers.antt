use Rattle.stores.proofs.Abort.{aborts_stand}
use Rattle.stores.proofs.abort_laws.aborts_leave_the_store_standing.Goals as goal

pub returns : goal.returns
returns g c = λ store shards. aborts_stand store shards g.W.Leavings.left
