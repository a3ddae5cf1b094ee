use Rattle.ties.proofs.Deciding.{beginnings_stay_tied}
use Rattle.ties.proofs.deciding_laws.beginnings_stay_tied.Goals as goal

pub returns : goal.returns
returns g c = beginnings_stay_tied g.D.Device.state g.D.Device.honest
