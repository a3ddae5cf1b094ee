use Rattle.stores.proofs.Answers.{inquiries_abort}
use Rattle.stores.proofs.abort_laws.ids_that_are_not_found_are_aborted.Goals as goal

pub returns : goal.returns
returns g c = λ store shards. inquiries_abort store shards g.W.Leavings.left
