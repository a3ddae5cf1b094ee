use Rattle.recovery.proofs.Checkpoints.{checkpoints_stand}
use Rattle.recovery.proofs.checkpoint_laws.coordinator_checkpoints_stand.Goals as goal

pub returns : goal.returns
returns g = checkpoints_stand
