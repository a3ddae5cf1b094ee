use Rattle.headline.proofs.Joined.{runs_keep}
use Rattle.headline.proofs.headline_laws.runs_keep_their_promise.Goals as goal

pub returns : goal.returns
returns g c = runs_keep g.D.Device.state g.D.Device.honest g.D.Device.moment g.D.Device.left_since g.met.D.Device.counts_now g.met.D.Device.only_now
