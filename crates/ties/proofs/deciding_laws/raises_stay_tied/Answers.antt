use Rattle.ties.proofs.Deciding.{raises_stay_tied}
use Rattle.ties.proofs.deciding_laws.raises_stay_tied.Goals as goal

pub returns : goal.returns
returns g c = raises_stay_tied g.D.Device.state g.D.Device.honest
