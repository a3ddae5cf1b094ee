use Rattle.flow_turns.proofs.Flushing.{coordinator_flush_turns}
use Rattle.flow_turns.proofs.flush_turns.coordinator_flush_takes_its_turn.Goals as goal

pub returns : goal.returns
returns g c = λ store shards. coordinator_flush_turns g.D.Device.state g.D.Device.honest g.D.Device.moment g.D.Device.left_since g.met.D.Device.counts_now g.met.D.Device.only_now store shards
