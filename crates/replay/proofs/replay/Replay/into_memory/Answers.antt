use Rattle.std.proofs.Common.{rules}
use Rattle.replay.proofs.replay.Replay.into_memory.Goals as goal

pub returns-in-Some-clause-ok : goal.returns-in-Some-clause-ok
returns-in-Some-clause-ok c = search rules
