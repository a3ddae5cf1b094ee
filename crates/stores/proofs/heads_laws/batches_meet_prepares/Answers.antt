use Rattle.stores.proofs.Batches.{batches_meet_prepares}
use Rattle.stores.proofs.heads_laws.batches_meet_prepares.Goals as goal

pub returns : goal.returns
returns g c = λ store shards. batches_meet_prepares store shards g.W.Leavings.left
