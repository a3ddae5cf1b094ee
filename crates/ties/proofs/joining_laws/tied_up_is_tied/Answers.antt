use Rattle.ties.proofs.Opening.{tied_up_is_tied}
use Rattle.ties.proofs.joining_laws.tied_up_is_tied.Goals as goal

pub returns : goal.returns
returns g c = tied_up_is_tied g.D.Device.state g.D.Device.honest
