use Rattle.headline.proofs.Found as found
use Rattle.headline.proofs.found_laws.what_is_found_rests.Goals as goal

pub returns : goal.returns
returns g c = found.what_is_found_rests g.D.Device.state g.D.Device.honest g.D.Device.moment g.D.Device.left_since
