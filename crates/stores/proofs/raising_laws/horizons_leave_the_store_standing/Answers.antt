use Rattle.stores.proofs.RaiseStep.{raises_stand}
use Rattle.stores.proofs.raising_laws.horizons_leave_the_store_standing.Goals as goal

pub returns : goal.returns
returns g c = λ store shards. raises_stand store shards g.W.Leavings.left
