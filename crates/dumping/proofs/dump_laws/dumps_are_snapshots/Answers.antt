use Rattle.dumping.proofs.Snapshots.{dumps_are_snapshots}
use Rattle.dumping.proofs.dump_laws.dumps_are_snapshots.Goals as goal

pub returns : goal.returns
returns g c = dumps_are_snapshots g.D.Device.state g.D.Device.honest g.D.Device.moment g.D.Device.left_since g.met.D.Device.counts_now g.met.D.Device.only_now
