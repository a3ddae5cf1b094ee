use Rattle.stores.proofs.Batches.{shards_settle}
use Rattle.stores.proofs.heads_laws.shards_settle.Goals as goal

pub returns : goal.returns
returns g c = λ store shards. shards_settle store shards g.W.Leavings.left
