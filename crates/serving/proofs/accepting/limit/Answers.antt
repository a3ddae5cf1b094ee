use Rattle.std.proofs.Common.{rules}
use Rattle.serving.proofs.accepting.limit.Goals as goal

pub returns-clause-for_ever : goal.returns-clause-for_ever
returns-clause-for_ever c = search rules
