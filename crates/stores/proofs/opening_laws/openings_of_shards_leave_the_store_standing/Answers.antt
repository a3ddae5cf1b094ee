use Rattle.stores.proofs.ShardOpening.{shard_openings_stand}
use Rattle.stores.proofs.opening_laws.openings_of_shards_leave_the_store_standing.Goals as goal

pub returns : goal.returns
returns g c = λ store shards. shard_openings_stand store shards g.W.Leavings.left g.W.Leavings.left_after
