use Rattle.stores.proofs.Stopping.{what_is_left_rests}
use Rattle.stores.proofs.stopping_laws.what_is_left_rests.Goals as goal

pub returns : goal.returns
returns g c = what_is_left_rests g.D.Device.state g.D.Device.honest
