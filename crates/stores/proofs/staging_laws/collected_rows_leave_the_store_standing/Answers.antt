use Rattle.stores.proofs.ShardStagesSteps.{collects_stand}
use Rattle.stores.proofs.staging_laws.collected_rows_leave_the_store_standing.Goals as goal

pub returns : goal.returns
returns g c = λ store shards now next s. collects_stand store shards g.W.Leavings.left now next s
