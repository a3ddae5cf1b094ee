use Rattle.laws.proofs.LessLeft.{horizon_rises}
use Rattle.laws.proofs.stop_laws.the_horizon_may_rise.Goals as goal

pub returns : goal.returns
returns g c = horizon_rises g.W.Contents.coordinator g.W.Contents.coordinator_after g.W.Contents.shard g.W.Contents.shard_after
