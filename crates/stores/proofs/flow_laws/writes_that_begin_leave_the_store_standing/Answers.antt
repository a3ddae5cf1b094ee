use Rattle.stores.proofs.WriteBegins.{writes_begin}
use Rattle.stores.proofs.flow_laws.writes_that_begin_leave_the_store_standing.Goals as goal

pub returns : goal.returns
returns g c = λ store shards. writes_begin store shards g.W.Leavings.left
