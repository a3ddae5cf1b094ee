use Rattle.ties.proofs.Deciding.{decisions_stay_tied}
use Rattle.ties.proofs.deciding_laws.decisions_stay_tied.Goals as goal

pub returns : goal.returns
returns g c = decisions_stay_tied g.D.Device.state g.D.Device.honest
