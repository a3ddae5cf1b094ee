use Rattle.ties.proofs.ShardOpening.{check_reads_are_seen}
use Rattle.ties.proofs.shard_tie_laws.check_reads_are_seen.Goals as goal

pub returns : goal.returns
returns g c = check_reads_are_seen g.D.Device.state g.D.Device.honest
