use Rattle.stores.proofs.ShardStagesSteps.{drops_stand}
use Rattle.stores.proofs.staging_laws.drops_leave_the_store_standing.Goals as goal

pub returns : goal.returns
returns g c = λ store shards now next s. drops_stand store shards g.W.Leavings.left now next s
