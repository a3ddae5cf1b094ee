use Rattle.stores.proofs.PrepareTurn.{collected_shards_have_cause}
use Rattle.stores.proofs.prepare_laws.collected_shards_have_cause.Goals as goal

pub returns : goal.returns
returns g c = λ store shards. collected_shards_have_cause store shards g.W.Leavings.left
