use Rattle.reshard_laws.proofs.Moments.{new_coordinators_are_whole}
use Rattle.reshard_laws.proofs.carried_laws.new_coordinators_are_whole.Goals as goal

pub returns : goal.returns
returns g c = new_coordinators_are_whole g.D.Device.state g.D.Device.honest g.D.Device.moment g.D.Device.left_since g.met.D.Device.only_now
