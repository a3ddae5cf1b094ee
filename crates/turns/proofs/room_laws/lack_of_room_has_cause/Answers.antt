use Rattle.turns.proofs.Rooms.{failed_flushes_have_cause, failed_points_have_cause, openings_without_room_have_cause}
use Rattle.turns.proofs.room_laws.lack_of_room_has_cause.Goals as goal

pub returns-clause-flush : goal.returns-clause-flush
returns-clause-flush g c = λ store shards. failed_flushes_have_cause g.D.Device.state g.D.Device.honest g.D.Device.moment g.D.Device.left_since store shards

pub returns-clause-checkpoint : goal.returns-clause-checkpoint
returns-clause-checkpoint g c = λ store shards. failed_points_have_cause g.D.Device.state g.D.Device.honest g.D.Device.moment g.D.Device.left_since store shards

pub returns-clause-open : goal.returns-clause-open
returns-clause-open g c = λ store shards. openings_without_room_have_cause g.D.Device.state g.D.Device.honest g.D.Device.moment g.D.Device.left_since store shards
