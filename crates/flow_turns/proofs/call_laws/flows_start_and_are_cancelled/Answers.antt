use Rattle.flow_turns.proofs.Cancels.{cancelled_flows_end}
use Rattle.flow_turns.proofs.FullStores.{full_stores_refuse}
use Rattle.flow_turns.proofs.Starts.{flows_start}
use Rattle.flow_turns.proofs.call_laws.flows_start_and_are_cancelled.Goals as goal

pub returns : goal.returns
returns g c = record {
  starts = λ store shards. flows_start g.D.Device.state g.D.Device.honest g.D.Device.moment g.D.Device.left_since g.met.D.Device.only_now store shards;
  full = λ store shards. full_stores_refuse g.D.Device.state g.D.Device.honest g.D.Device.moment g.D.Device.left_since g.met.D.Device.only_now store shards;
  cancelled = λ store shards. cancelled_flows_end g.D.Device.state g.D.Device.honest g.D.Device.moment g.D.Device.left_since g.met.D.Device.only_now store shards;
}
