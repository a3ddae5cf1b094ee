use Rattle.headline.proofs.Starts.{cares_keep, requests_keep}
use Rattle.headline.proofs.step_laws.starts_keep.Goals as goal

pub returns : goal.returns
returns g c = record {
  requests = requests_keep g.D.Device.state g.D.Device.honest g.D.Device.moment g.D.Device.left_since g.met.D.Device.only_now;
  cares = cares_keep g.D.Device.state g.D.Device.honest g.D.Device.moment g.D.Device.left_since g.met.D.Device.only_now;
}
