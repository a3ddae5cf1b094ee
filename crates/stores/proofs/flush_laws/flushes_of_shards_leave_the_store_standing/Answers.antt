use Rattle.stores.proofs.ShardFlush.{shard_flushes_stand}
use Rattle.stores.proofs.flush_laws.flushes_of_shards_leave_the_store_standing.Goals as goal

pub returns : goal.returns
returns g c = λ store shards. shard_flushes_stand store shards g.W.Leavings.left g.W.Leavings.left_after
