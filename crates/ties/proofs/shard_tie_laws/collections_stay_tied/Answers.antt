use Rattle.ties.proofs.ShardCalls.{collections_stay_tied}
use Rattle.ties.proofs.shard_tie_laws.collections_stay_tied.Goals as goal

pub returns : goal.returns
returns g c = collections_stay_tied g.D.Device.state g.D.Device.honest
