use Rattle.stores.proofs.FailedFlush.{failed_flushes_stand}
use Rattle.stores.proofs.flush_laws.failed_flushes_leave_the_store_standing.Goals as goal

pub returns : goal.returns
returns g c = λ store shards. failed_flushes_stand store shards g.W.Leavings.left g.W.Leavings.left_after
