use Rattle.stores.proofs.CheckWalk.{check_replies_select}
use Rattle.stores.proofs.checking_laws.check_replies_select.Goals as goal

pub returns : goal.returns
returns g c = λ store shards. check_replies_select store shards g.W.Leavings.left
