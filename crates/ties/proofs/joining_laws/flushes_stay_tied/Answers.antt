use Rattle.ties.proofs.Landing.{flushes_stay_tied}
use Rattle.ties.proofs.joining_laws.flushes_stay_tied.Goals as goal

pub returns : goal.returns
returns g c = flushes_stay_tied g.D.Device.state g.D.Device.honest
