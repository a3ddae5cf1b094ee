use Rattle.flow_turns.proofs.ChecksTurn.{checks_turn}
use Rattle.flow_turns.proofs.answer_laws.checks_take_their_turn.Goals as goal

pub returns : goal.returns
returns g c = λ store shards. checks_turn g.D.Device.state g.D.Device.honest g.D.Device.moment g.D.Device.left_since g.met.D.Device.counts_now g.met.D.Device.only_now store shards
