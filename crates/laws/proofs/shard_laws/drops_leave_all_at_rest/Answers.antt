use Rattle.laws.proofs.ShardSteps.{drops_rest}
use Rattle.laws.proofs.shard_laws.drops_leave_all_at_rest.Goals as goal

pub returns : goal.returns
returns g c = drops_rest g.W.Contents.coordinator g.W.Contents.shard g.W.Contents.shard_after
