use Rattle.flow_turns.proofs.Leaving.{drops_turn}
use Rattle.flow_turns.proofs.leaving_turns.drop_takes_its_turn.Goals as goal

pub returns : goal.returns
returns g c = λ store shards s verdict held. drops_turn g.D.Device.state g.D.Device.honest g.D.Device.moment g.D.Device.left_since g.met.D.Device.counts_now g.met.D.Device.only_now store shards s verdict held
