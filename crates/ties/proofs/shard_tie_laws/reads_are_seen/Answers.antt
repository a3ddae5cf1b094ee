use Rattle.ties.proofs.ShardOpening.{reads_are_seen}
use Rattle.ties.proofs.shard_tie_laws.reads_are_seen.Goals as goal

pub returns : goal.returns
returns g c = reads_are_seen g.D.Device.state g.D.Device.honest
