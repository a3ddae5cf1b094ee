use Rattle.stores.proofs.PrepareTurn.{full_shards_have_cause}
use Rattle.stores.proofs.prepare_laws.full_shards_have_cause.Goals as goal

pub returns : goal.returns
returns g c = λ store shards. full_shards_have_cause store shards g.W.Leavings.left
