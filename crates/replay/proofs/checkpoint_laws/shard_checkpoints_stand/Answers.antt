use Rattle.replay.proofs.Checkpoints.{checkpoints_stand}
use Rattle.replay.proofs.checkpoint_laws.shard_checkpoints_stand.Goals as goal

pub returns : goal.returns
returns g = checkpoints_stand
