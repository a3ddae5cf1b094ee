use Rattle.ties.proofs.ShardCalls.{learnings_stay_tied}
use Rattle.ties.proofs.shard_tie_laws.learnings_stay_tied.Goals as goal

pub returns : goal.returns
returns g c = learnings_stay_tied g.D.Device.state g.D.Device.honest
