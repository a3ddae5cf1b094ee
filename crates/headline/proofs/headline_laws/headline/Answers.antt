use Rattle.headline.proofs.Joined.{lives}
use Rattle.headline.proofs.headline_laws.headline.Goals as goal

pub returns : goal.returns
returns g c = lives g.D.Device.state g.D.Device.honest g.D.Device.moment g.D.Device.left_since g.met.D.Device.counts_now g.met.D.Device.only_now
