use Rattle.turns.proofs.CoordinatorCalls.{decisions_are_forgotten}
use Rattle.turns.proofs.CoordinatorTurns.{away_is_forgotten, kept_answers, still_turns, unsure_answers}
use Rattle.turns.proofs.coordinator_seam_laws.outcome_takes_its_turn.Goals as goal

pub returns : goal.returns
returns g c = record {
  kept = λ store shards. kept_answers store shards g.W.Leavings.left _;
  later = λ store shards. still_turns store shards g.W.Leavings.left;
  unsure = λ store shards. unsure_answers store shards g.W.Leavings.left;
  forgotten = λ store shards. decisions_are_forgotten store shards g.W.Leavings.left _;
  away = away_is_forgotten;
}
