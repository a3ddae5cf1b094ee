use Rattle.turns.proofs.CoordinatorOpening.{refused_coordinators_stand}
use Rattle.turns.proofs.restart_laws.refused_openings_of_the_coordinator_leave_the_store_standing.Goals as goal

pub returns : goal.returns
returns g c = λ store shards. refused_coordinators_stand store shards g.W.Leavings.left g.W.Leavings.left_after
