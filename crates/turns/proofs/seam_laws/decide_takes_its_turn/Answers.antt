use Rattle.turns.proofs.DecideSeam.{decide_turns}
use Rattle.turns.proofs.seam_laws.decide_takes_its_turn.Goals as goal

pub returns : goal.returns
returns g c = λ store shards. decide_turns store shards g.W.Leavings.left _
