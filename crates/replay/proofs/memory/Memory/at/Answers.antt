use Rattle.std.proofs.Common.{rules}
use Rattle.replay.proofs.memory.Memory.at.Goals as goal

pub returns-clause-rows : goal.returns-clause-rows
returns-clause-rows c = search rules
