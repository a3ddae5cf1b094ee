use Rattle.turns.proofs.StopInside.{stops_within_steps}
use Rattle.turns.proofs.restart_laws.stops_within_a_step_leave_all_at_rest.Goals as goal

pub returns : goal.returns
returns g c = λ store shards. stops_within_steps store shards g.W.Leavings.left g.W.Leavings.left_after
