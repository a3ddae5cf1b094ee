use Rattle.turns.proofs.CoordinatorCalls.{heads_answer, heads_have_cause, places_are_found}
use Rattle.turns.proofs.CoordinatorTurns.{heads_turn}
use Rattle.turns.proofs.coordinator_seam_laws.heads_take_their_turn.Goals as goal

pub returns : goal.returns
returns g c = record {
  answer = λ store shards. heads_answer store shards g.W.Leavings.left _;
  turn = λ store shards. heads_turn store shards g.W.Leavings.left _;
  cause = λ store shards. heads_have_cause store shards g.W.Leavings.left _;
  places = places_are_found;
}
