use Rattle.turns.proofs.CoordinatorCalls.{inquiries_answer}
use Rattle.turns.proofs.CoordinatorTurns.{resolving_turns, verdicts_turn}
use Rattle.turns.proofs.DecideCauses.{undecided_are_not_found}
use Rattle.turns.proofs.coordinator_seam_laws.inquire_takes_its_turn.Goals as goal

pub returns : goal.returns
returns g c = record {
  answer = λ store shards. inquiries_answer store shards g.W.Leavings.left _;
  resolving = λ store shards. resolving_turns store shards g.W.Leavings.left;
  writing = λ store shards. verdicts_turn store shards g.W.Leavings.left;
  undecided = λ store shards. undecided_are_not_found store shards g.W.Leavings.left _;
}
