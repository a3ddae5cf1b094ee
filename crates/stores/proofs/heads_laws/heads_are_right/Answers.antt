use Rattle.stores.proofs.Answers.{heads_are_right}
use Rattle.stores.proofs.heads_laws.heads_are_right.Goals as goal

pub returns : goal.returns
returns g c = λ store shards. heads_are_right store shards g.W.Leavings.left
