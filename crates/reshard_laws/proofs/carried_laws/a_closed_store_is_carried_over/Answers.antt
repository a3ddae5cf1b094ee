use Rattle.reshard_laws.proofs.Carried.{closed_stores_are_carried_over}
use Rattle.reshard_laws.proofs.carried_laws.a_closed_store_is_carried_over.Goals as goal

pub returns : goal.returns
returns g c = closed_stores_are_carried_over g.D.Device.state g.D.Device.honest g.D.Device.moment g.D.Device.left_since g.met.D.Device.counts_now g.met.D.Device.only_now
