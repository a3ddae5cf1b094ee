use Rattle.turns.proofs.DecideCauses.{decide_has_cause}
use Rattle.turns.proofs.coordinator_seam_laws.decide_has_cause.Goals as goal

pub returns : goal.returns
returns g c = λ store shards. decide_has_cause store shards g.W.Leavings.left _
