use Rattle.ties.proofs.ShardPoints.{shard_checkpoints_stay_tied}
use Rattle.ties.proofs.shard_tie_laws.shard_checkpoints_stay_tied.Goals as goal

pub returns : goal.returns
returns g c = shard_checkpoints_stay_tied g.D.Device.state g.D.Device.honest
