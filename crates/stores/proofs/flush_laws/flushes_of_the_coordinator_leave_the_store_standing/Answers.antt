use Rattle.stores.proofs.CoordinatorFlush.{coordinator_flushes_stand}
use Rattle.stores.proofs.flush_laws.flushes_of_the_coordinator_leave_the_store_standing.Goals as goal

pub returns : goal.returns
returns g c = λ store shards. coordinator_flushes_stand store shards g.W.Leavings.left g.W.Leavings.left_after
