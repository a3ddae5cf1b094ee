use Rattle.at_rest.proofs.Resting.{what_rests_is_at_rest}
use Rattle.at_rest.proofs.resting_laws.what_rests_is_at_rest.Goals as goal

pub returns : goal.returns
returns g c = what_rests_is_at_rest g.D.Device.state g.D.Device.honest
