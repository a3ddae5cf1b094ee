use Rattle.std.proofs.Common.{rules}
use Rattle.reshard.proofs.filling.fill_shard.Goals as goal

pub returns-clause-ok : goal.returns-clause-ok
returns-clause-ok g c = search rules
