use Rattle.headline.proofs.Joined.{steps_keep}
use Rattle.headline.proofs.headline_laws.steps_keep_their_promise.Goals as goal

pub returns : goal.returns
returns g c = steps_keep g.D.Device.state g.D.Device.honest g.D.Device.moment g.D.Device.left_since g.met.D.Device.counts_now g.met.D.Device.only_now
