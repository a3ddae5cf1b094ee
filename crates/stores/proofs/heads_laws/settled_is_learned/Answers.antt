use Rattle.stores.proofs.Batches.{settled_is_learned}
use Rattle.stores.proofs.heads_laws.settled_is_learned.Goals as goal

pub returns : goal.returns
returns g c = λ store shards. settled_is_learned store shards g.W.Leavings.left
