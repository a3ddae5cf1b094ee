use Rattle.stores.proofs.CheckWalk.{checks_say_no, checks_say_yes, full_checks_have_cause}
use Rattle.stores.proofs.checking_laws.checks_agree.Goals as goal

pub returns : goal.returns
returns g c = record {
  yes = λ store shards. checks_say_yes store shards g.W.Leavings.left;
  no = λ store shards. checks_say_no store shards g.W.Leavings.left;
  full = λ store shards. full_checks_have_cause store shards g.W.Leavings.left;
}
