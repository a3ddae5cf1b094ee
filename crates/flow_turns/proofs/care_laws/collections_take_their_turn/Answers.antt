use Rattle.flow_turns.proofs.Collects.{collects_turn}
use Rattle.flow_turns.proofs.care_laws.collections_take_their_turn.Goals as goal

pub returns : goal.returns
returns g c = λ store shards. collects_turn g.D.Device.state g.D.Device.honest g.D.Device.moment g.D.Device.left_since g.met.D.Device.counts_now g.met.D.Device.only_now store shards
