use Rattle.headline.proofs.Whole.{openings_keep}
use Rattle.headline.proofs.opening_laws.openings_keep.Goals as goal

pub returns : goal.returns
returns g c = openings_keep g.D.Device.state g.D.Device.honest g.D.Device.moment g.D.Device.left_since g.met.D.Device.counts_now g.met.D.Device.only_now
