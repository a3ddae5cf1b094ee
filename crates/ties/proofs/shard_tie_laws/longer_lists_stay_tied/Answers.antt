use Rattle.ties.proofs.ShardOpening.{longer_lists_stay_tied}
use Rattle.ties.proofs.shard_tie_laws.longer_lists_stay_tied.Goals as goal

pub returns : goal.returns
returns g c = longer_lists_stay_tied g.D.Device.state g.D.Device.honest
