use Rattle.turns.proofs.ShardFailedSeam.{failed_shard_flushes_are_quiet}
use Rattle.turns.proofs.ShardOpeningSeam.{shard_flushes_are_quiet}
use Rattle.turns.proofs.shard_opening_laws.flushes_of_shards_are_quiet.Goals as goal

pub returns-clause-ok : goal.returns-clause-ok
returns-clause-ok g c = λ store shards. shard_flushes_are_quiet g.D.Device.state g.D.Device.honest g.D.Device.moment g.D.Device.left_since store shards

pub returns-clause-failed : goal.returns-clause-failed
returns-clause-failed g c = λ store shards. failed_shard_flushes_are_quiet g.D.Device.state g.D.Device.honest g.D.Device.moment g.D.Device.left_since g.met.D.Device.counts_now store shards
