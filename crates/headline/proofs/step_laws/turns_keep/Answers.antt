use Rattle.headline.proofs.AllTurns.{turns_keep}
use Rattle.headline.proofs.step_laws.turns_keep.Goals as goal

pub returns : goal.returns
returns g c = turns_keep g.D.Device.state g.D.Device.honest g.D.Device.moment g.D.Device.left_since g.met.D.Device.counts_now g.met.D.Device.only_now
