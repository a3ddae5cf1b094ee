use Rattle.std.proofs.Common.{rules}
use Rattle.reshard.proofs.filling.heads.Goals as goal

pub returns-clause-value : goal.returns-clause-value
returns-clause-value c = search rules
