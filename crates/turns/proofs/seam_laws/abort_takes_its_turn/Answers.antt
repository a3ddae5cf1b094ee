use Rattle.turns.proofs.AbortSeam.{abort_turns}
use Rattle.turns.proofs.seam_laws.abort_takes_its_turn.Goals as goal

pub returns : goal.returns
returns g c = λ store shards. abort_turns store shards g.W.Leavings.left _
