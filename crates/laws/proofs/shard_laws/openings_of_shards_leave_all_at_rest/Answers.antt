use Rattle.laws.proofs.ShardSteps.{shard_openings_rest}
use Rattle.laws.proofs.shard_laws.openings_of_shards_leave_all_at_rest.Goals as goal

pub returns : goal.returns
returns g c = shard_openings_rest g.W.Contents.coordinator g.W.Contents.shard g.W.Contents.shard_after
