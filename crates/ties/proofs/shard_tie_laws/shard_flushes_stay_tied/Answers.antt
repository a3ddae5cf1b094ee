use Rattle.ties.proofs.ShardCalls.{shard_flushes_stay_tied}
use Rattle.ties.proofs.shard_tie_laws.shard_flushes_stay_tied.Goals as goal

pub returns : goal.returns
returns g c = shard_flushes_stay_tied g.D.Device.state g.D.Device.honest
