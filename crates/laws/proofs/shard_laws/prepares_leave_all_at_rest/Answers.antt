use Rattle.laws.proofs.ShardSteps.{prepares_rest}
use Rattle.laws.proofs.shard_laws.prepares_leave_all_at_rest.Goals as goal

pub returns : goal.returns
returns g c = prepares_rest g.W.Contents.coordinator g.W.Contents.shard g.W.Contents.shard_after
