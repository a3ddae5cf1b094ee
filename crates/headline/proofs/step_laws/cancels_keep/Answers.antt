use Rattle.headline.proofs.Cancels.{cancels_keep}
use Rattle.headline.proofs.step_laws.cancels_keep.Goals as goal

pub returns : goal.returns
returns g c = cancels_keep g.D.Device.state g.D.Device.honest g.D.Device.moment g.D.Device.left_since g.met.D.Device.only_now
