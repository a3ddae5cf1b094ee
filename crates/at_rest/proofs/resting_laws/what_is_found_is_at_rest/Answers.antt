use Rattle.at_rest.proofs.Stopped.{what_is_found_is_at_rest}
use Rattle.at_rest.proofs.resting_laws.what_is_found_is_at_rest.Goals as goal

pub returns : goal.returns
returns g c = what_is_found_is_at_rest g.D.Device.state g.D.Device.honest
