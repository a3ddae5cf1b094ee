use Rattle.turns.proofs.DecisionTurn.{deciders_turn}
use Rattle.turns.proofs.decision_turns.deciders_take_their_turn.Goals as goal

pub returns : goal.returns
returns g c = λ store shards. deciders_turn store shards g.W.Leavings.left
