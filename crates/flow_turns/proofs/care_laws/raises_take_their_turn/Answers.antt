use Rattle.flow_turns.proofs.Raises.{raises_take_their_turn}
use Rattle.flow_turns.proofs.care_laws.raises_take_their_turn.Goals as goal

pub returns : goal.returns
returns g c = λ store shards. raises_take_their_turn g.D.Device.state g.D.Device.honest g.D.Device.moment g.D.Device.left_since g.met.D.Device.counts_now g.met.D.Device.only_now store shards
