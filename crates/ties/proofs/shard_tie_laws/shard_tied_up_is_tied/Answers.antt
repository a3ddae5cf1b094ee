use Rattle.ties.proofs.ShardOpening.{shard_tied_up_is_tied}
use Rattle.ties.proofs.shard_tie_laws.shard_tied_up_is_tied.Goals as goal

pub returns : goal.returns
returns g c = shard_tied_up_is_tied g.D.Device.state g.D.Device.honest
