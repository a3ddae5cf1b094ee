use Rattle.stores.proofs.Batches.{watches_agree}
use Rattle.stores.proofs.heads_laws.watches_agree.Goals as goal

pub returns : goal.returns
returns g c = λ store shards. watches_agree store shards g.W.Leavings.left
