use Rattle.at_rest.proofs.Stopped.{what_a_stop_leaves_is_at_rest}
use Rattle.at_rest.proofs.resting_laws.what_a_stop_leaves_is_at_rest.Goals as goal

pub returns : goal.returns
returns g c = what_a_stop_leaves_is_at_rest g.D.Device.state g.D.Device.honest g.D.Device.moment g.D.Device.left_since g.met.D.Device.counts_now
