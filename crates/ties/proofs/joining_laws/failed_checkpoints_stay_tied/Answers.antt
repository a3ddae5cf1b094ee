use Rattle.ties.proofs.Points.{failed_checkpoints_stay_tied}
use Rattle.ties.proofs.joining_laws.failed_checkpoints_stay_tied.Goals as goal

pub returns : goal.returns
returns g c = failed_checkpoints_stay_tied g.D.Device.state g.D.Device.honest g.D.Device.moment g.D.Device.left_since g.met.D.Device.counts_now
