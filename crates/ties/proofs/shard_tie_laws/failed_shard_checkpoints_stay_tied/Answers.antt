use Rattle.ties.proofs.ShardPoints.{failed_shard_checkpoints_stay_tied}
use Rattle.ties.proofs.shard_tie_laws.failed_shard_checkpoints_stay_tied.Goals as goal

pub returns : goal.returns
returns g c = failed_shard_checkpoints_stay_tied g.D.Device.state g.D.Device.honest g.D.Device.moment g.D.Device.left_since g.met.D.Device.counts_now
