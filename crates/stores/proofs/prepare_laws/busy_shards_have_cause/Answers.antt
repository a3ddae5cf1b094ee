use Rattle.stores.proofs.PrepareTurn.{busy_shards_have_cause}
use Rattle.stores.proofs.prepare_laws.busy_shards_have_cause.Goals as goal

pub returns : goal.returns
returns g c = λ store shards. busy_shards_have_cause store shards g.W.Leavings.left
