use Rattle.laws.proofs.CoordinatorSteps.{restarts_rest}
use Rattle.laws.proofs.coordinator_laws.restarts_of_the_coordinator_cut_the_log.Goals as goal

pub returns : goal.returns
returns g c = restarts_rest g.W.Contents.coordinator g.W.Contents.coordinator_after g.W.Contents.shard
