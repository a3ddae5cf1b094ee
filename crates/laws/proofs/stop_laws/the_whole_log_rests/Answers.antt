use Rattle.laws.proofs.LessLeft.{whole_rests}
use Rattle.laws.proofs.stop_laws.the_whole_log_rests.Goals as goal

pub returns : goal.returns
returns g c = whole_rests g.W.Contents.coordinator g.W.Contents.coordinator_after g.W.Contents.shard g.W.Contents.shard_after
