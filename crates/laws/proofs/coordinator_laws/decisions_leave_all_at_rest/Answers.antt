use Rattle.laws.proofs.CoordinatorSteps.{decisions_rest}
use Rattle.laws.proofs.coordinator_laws.decisions_leave_all_at_rest.Goals as goal

pub returns : goal.returns
returns g c = decisions_rest g.W.Contents.coordinator g.W.Contents.coordinator_after g.W.Contents.shard
