use Rattle.std.proofs.Common.{rules}
use Rattle.serving.proofs.patience.Patience.tick.Goals as goal

pub returns-clause-kept : goal.returns-clause-kept
returns-clause-kept c = search rules
