use Rattle.headline.proofs.DeviceScripts.{scripts_keep}
use Rattle.headline.proofs.step_laws.scripts_keep.Goals as goal

pub returns : goal.returns
returns g c = scripts_keep g.D.Device.set_to_fail g.D.Device.state g.D.Device.honest g.D.Device.moment g.D.Device.left_since
