use Rattle.turns.proofs.ShardFailedSeam.{refused_openings_step}
use Rattle.turns.proofs.ShardOpeningSeam.{failed_shards_have_cause, full_shards_were_opened, no_shard_is_damaged, shard_openings_step}
use Rattle.turns.proofs.shard_opening_laws.shard_opening_takes_its_step.Goals as goal

pub returns-clause-ok : goal.returns-clause-ok
returns-clause-ok g c = λ store shards. shard_openings_step g.D.Device.state g.D.Device.honest g.D.Device.moment g.D.Device.left_since store shards

pub returns-clause-refused : goal.returns-clause-refused
returns-clause-refused g c = λ store shards. refused_openings_step g.D.Device.state g.D.Device.honest g.D.Device.moment g.D.Device.left_since g.met.D.Device.counts_now store shards

pub returns-clause-full : goal.returns-clause-full
returns-clause-full g c = λ store shards. full_shards_were_opened g.D.Device.state g.D.Device.honest g.D.Device.moment g.D.Device.left_since store shards

pub returns-clause-failed : goal.returns-clause-failed
returns-clause-failed g c = λ store shards. failed_shards_have_cause g.D.Device.state g.D.Device.honest g.D.Device.moment g.D.Device.left_since store shards

pub returns-clause-damaged : goal.returns-clause-damaged
returns-clause-damaged g c = λ store shards. no_shard_is_damaged g.D.Device.state g.D.Device.honest g.D.Device.moment g.D.Device.left_since store shards
