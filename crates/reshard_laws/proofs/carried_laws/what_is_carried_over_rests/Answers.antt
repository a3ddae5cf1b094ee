use Rattle.reshard_laws.proofs.Carried.{what_is_carried_over_rests}
use Rattle.reshard_laws.proofs.carried_laws.what_is_carried_over_rests.Goals as goal

pub returns : goal.returns
returns g c = what_is_carried_over_rests g.D.Device.state g.D.Device.honest g.D.Device.moment g.D.Device.left_since g.met.D.Device.counts_now g.met.D.Device.only_now
