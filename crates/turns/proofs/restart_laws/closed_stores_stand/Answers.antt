use Rattle.turns.proofs.ClosedStore.{closed_stores_stand}
use Rattle.turns.proofs.restart_laws.closed_stores_stand.Goals as goal

pub returns : goal.returns
returns g c = λ store shards. closed_stores_stand store shards g.W.Leavings.left g.W.Leavings.left_after
