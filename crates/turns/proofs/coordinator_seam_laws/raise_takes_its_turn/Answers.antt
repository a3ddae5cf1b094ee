use Rattle.turns.proofs.RaiseSeam.{raise_has_cause, raises_turn}
use Rattle.turns.proofs.coordinator_seam_laws.raise_takes_its_turn.Goals as goal

pub returns : goal.returns
returns g c = record {
  turn = λ store shards. raises_turn store shards g.W.Leavings.left _;
  cause = λ store shards. raise_has_cause store shards g.W.Leavings.left _;
}
