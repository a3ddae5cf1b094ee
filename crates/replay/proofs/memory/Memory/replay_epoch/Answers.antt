use Rattle.std.proofs.Common.{rules}
use Rattle.records.specs.Replays.{shard_step}
use Rattle.replay.proofs.memory.Memory.replay_epoch.Goals as goal

pub returns-clause-ok : goal.returns-clause-ok
unfolding shard_step
returns-clause-ok c = search rules
