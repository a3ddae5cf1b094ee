use Rattle.stores.proofs.Answers.{outcomes_agree}
use Rattle.stores.proofs.abort_laws.outcomes_agree.Goals as goal

pub returns : goal.returns
returns g c = λ store shards. outcomes_agree store shards g.W.Leavings.left
