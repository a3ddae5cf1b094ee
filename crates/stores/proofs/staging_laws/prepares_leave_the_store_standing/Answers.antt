use Rattle.stores.proofs.ShardStagesSteps.{prepares_stand}
use Rattle.stores.proofs.staging_laws.prepares_leave_the_store_standing.Goals as goal

pub returns : goal.returns
returns g c = λ store shards now next s. prepares_stand store shards g.W.Leavings.left now next s
