use Rattle.std.proofs.Common.{rules}
use Rattle.replay.proofs.memory.Memory.holds.Goals as goal

pub returns-in-NotAfter : goal.returns-in-NotAfter
returns-in-NotAfter c = search rules
