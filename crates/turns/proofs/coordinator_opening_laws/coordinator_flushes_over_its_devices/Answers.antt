use Rattle.turns.proofs.CoordinatorOpeningSeam.{fails_over_devices, flushes_over_devices}
use Rattle.turns.proofs.coordinator_opening_laws.coordinator_flushes_over_its_devices.Goals as goal

pub returns : goal.returns
returns g c = record {
  ok = λ store shards. flushes_over_devices g.D.Device.state g.D.Device.honest g.D.Device.moment g.D.Device.left_since g.met.D.Device.counts_now store shards;
  failed = λ store shards. fails_over_devices g.D.Device.state g.D.Device.honest g.D.Device.moment g.D.Device.left_since g.met.D.Device.counts_now store shards;
}
