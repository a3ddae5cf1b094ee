use Rattle.laws.proofs.LessLeft.{less_rests}
use Rattle.laws.proofs.stop_laws.less_leaves_all_at_rest.Goals as goal

pub returns : goal.returns
returns g c = less_rests g.W.Contents.coordinator g.W.Contents.coordinator_after g.W.Contents.shard g.W.Contents.shard_after
