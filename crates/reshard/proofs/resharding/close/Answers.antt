use Rattle.std.proofs.Common.{rules}
use Rattle.reshard.proofs.resharding.close.Goals as goal

pub returns-clause-cared : goal.returns-clause-cared
returns-clause-cared g c = search rules
