use Rattle.turns.proofs.CoordinatorCalls.{batch_answers, batch_has_cause}
use Rattle.turns.proofs.CoordinatorTurns.{batch_turns}
use Rattle.turns.proofs.coordinator_seam_laws.batch_takes_its_turn.Goals as goal

pub returns : goal.returns
returns g c = record {
  answer = λ store shards. batch_answers store shards g.W.Leavings.left _;
  turn = λ store shards. batch_turns store shards g.W.Leavings.left _;
  cause = λ store shards. batch_has_cause store shards g.W.Leavings.left _;
}
