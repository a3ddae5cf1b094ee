use Rattle.reshard_laws.proofs.Words.{steps_keep}
use Rattle.reshard_laws.proofs.Flushed.{cares_keep_the_list}
use Rattle.reshard_laws.proofs.carried_laws.cares_keep_the_list.Goals as goal

pub returns : goal.returns
returns g c = cares_keep_the_list g.D.Device.state g.D.Device.honest g.D.Device.moment g.D.Device.left_since (steps_keep g.D.Device.state g.D.Device.honest g.D.Device.moment g.D.Device.left_since g.met.D.Device.counts_now g.met.D.Device.only_now)
