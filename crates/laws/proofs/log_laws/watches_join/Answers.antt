use Rattle.laws.proofs.WatchesJoin.{join}
use Rattle.laws.proofs.log_laws.watches_join.Goals as goal

pub returns : goal.returns
returns c = join
