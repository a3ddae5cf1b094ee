use Rattle.flow_turns.proofs.Learns.{learns_turn}
use Rattle.flow_turns.proofs.care_laws.shards_learn_in_turn.Goals as goal

pub returns : goal.returns
returns g c = λ store shards. learns_turn g.D.Device.state g.D.Device.honest g.D.Device.moment g.D.Device.left_since g.met.D.Device.counts_now g.met.D.Device.only_now store shards
