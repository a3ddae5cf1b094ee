use Rattle.stores.proofs.PrepareTurn.{broken_shards_have_cause}
use Rattle.stores.proofs.prepare_laws.broken_shards_have_cause.Goals as goal

pub returns : goal.returns
returns g c = λ store shards. broken_shards_have_cause store shards g.W.Leavings.left
