use Rattle.laws.proofs.CoordinatorSteps.{openings_rest}
use Rattle.laws.proofs.coordinator_laws.openings_of_the_coordinator_leave_all_at_rest.Goals as goal

pub returns : goal.returns
returns g c = openings_rest g.W.Contents.coordinator g.W.Contents.coordinator_after g.W.Contents.shard
