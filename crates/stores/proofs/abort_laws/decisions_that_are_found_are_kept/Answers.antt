use Rattle.stores.proofs.Answers.{inquiries_find}
use Rattle.stores.proofs.abort_laws.decisions_that_are_found_are_kept.Goals as goal

pub returns : goal.returns
returns g c = λ store shards. inquiries_find store shards g.W.Leavings.left
