use Rattle.stores.proofs.ShardStagesSteps.{learns_stand}
use Rattle.stores.proofs.staging_laws.learned_writes_leave_the_store_standing.Goals as goal

pub returns : goal.returns
returns g c = λ store shards now next s. learns_stand store shards g.W.Leavings.left now next s
