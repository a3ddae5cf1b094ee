use Rattle.turns.proofs.BeginSeam.{begin_has_cause}
use Rattle.turns.proofs.seam_laws.begin_has_cause.Goals as goal

pub returns : goal.returns
returns g c = λ store shards. begin_has_cause store shards g.W.Leavings.left _
