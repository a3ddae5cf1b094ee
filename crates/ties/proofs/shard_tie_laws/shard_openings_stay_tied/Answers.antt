use Rattle.ties.proofs.ShardOpening.{shard_openings_stay_tied}
use Rattle.ties.proofs.shard_tie_laws.shard_openings_stay_tied.Goals as goal

pub returns : goal.returns
returns g c = shard_openings_stay_tied g.D.Device.state g.D.Device.honest g.D.Device.moment g.D.Device.left_since g.met.D.Device.counts_now
