use Rattle.ties.proofs.Deciding.{aborts_stay_tied}
use Rattle.ties.proofs.deciding_laws.aborts_stay_tied.Goals as goal

pub returns : goal.returns
returns g c = aborts_stay_tied g.D.Device.state g.D.Device.honest
