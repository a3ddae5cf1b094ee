use Rattle.turns.proofs.BeginSeam.{begin_turns}
use Rattle.turns.proofs.seam_laws.begin_takes_its_turn.Goals as goal

pub returns : goal.returns
returns g c = λ store shards. begin_turns store shards g.W.Leavings.left _
