use Rattle.laws.proofs.ShardSteps.{collects_rest}
use Rattle.laws.proofs.shard_laws.collected_rows_leave_all_at_rest.Goals as goal

pub returns : goal.returns
returns g c = collects_rest g.W.Contents.coordinator g.W.Contents.shard g.W.Contents.shard_after
