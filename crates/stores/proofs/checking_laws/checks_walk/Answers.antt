use Rattle.stores.proofs.CheckWalk.{checks_begin, checks_go_on}
use Rattle.stores.proofs.checking_laws.checks_walk.Goals as goal

pub returns : goal.returns
returns g c = record {
  begin = λ store shards. checks_begin store shards g.W.Leavings.left;
  go_on = λ store shards. checks_go_on store shards g.W.Leavings.left;
}
