use Rattle.reshard_laws.proofs.Carried.{tokens_read_the_same}
use Rattle.reshard_laws.proofs.carried_laws.tokens_read_the_same.Goals as goal

pub returns : goal.returns
returns g c = tokens_read_the_same g.D.Device.state g.D.Device.honest g.D.Device.moment g.D.Device.left_since g.met.D.Device.counts_now g.met.D.Device.only_now g.D.Device.set_to_fail
