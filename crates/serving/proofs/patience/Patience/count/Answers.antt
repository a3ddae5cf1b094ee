use Rattle.std.proofs.Common.{rules}
use Rattle.serving.proofs.patience.Patience.count.Goals as goal

pub returns-clause-ticks : goal.returns-clause-ticks
returns-clause-ticks c = search rules
