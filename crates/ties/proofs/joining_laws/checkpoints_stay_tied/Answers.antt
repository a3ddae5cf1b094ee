use Rattle.ties.proofs.Points.{checkpoints_stay_tied}
use Rattle.ties.proofs.joining_laws.checkpoints_stay_tied.Goals as goal

pub returns : goal.returns
returns g c = checkpoints_stay_tied g.D.Device.state g.D.Device.honest
