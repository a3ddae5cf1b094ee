use Rattle.flow_turns.proofs.WriteCancels.{cancels_run}
use Rattle.flow_turns.proofs.write_laws.cancelled_writes_run.Goals as goal

pub returns : goal.returns
returns g c = λ store shards. cancels_run g.D.Device.state g.D.Device.honest g.D.Device.moment g.D.Device.left_since g.met.D.Device.only_now store shards
