use Rattle.laws.proofs.ShardSteps.{learns_rest}
use Rattle.laws.proofs.shard_laws.learned_writes_leave_all_at_rest.Goals as goal

pub returns : goal.returns
returns g c = learns_rest g.W.Contents.coordinator g.W.Contents.shard g.W.Contents.shard_after
