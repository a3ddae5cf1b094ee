use Rattle.flow_turns.proofs.Learning.{learn_turns}
use Rattle.flow_turns.proofs.catch_up_turns.learn_takes_its_turn.Goals as goal

pub returns : goal.returns
returns g c = λ store shards s batch. learn_turns g.D.Device.state g.D.Device.honest g.D.Device.moment g.D.Device.left_since g.met.D.Device.counts_now g.met.D.Device.only_now store shards s batch
