use Rattle.stores.proofs.DecisionFlows.{deciders_stand}
use Rattle.stores.proofs.deciding_laws.deciders_hold_what_is_right.Goals as goal

pub returns : goal.returns
returns g c = λ store shards. deciders_stand store shards g.W.Leavings.left
