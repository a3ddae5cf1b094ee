use Rattle.laws.proofs.CoordinatorSteps.{flushes_rest}
use Rattle.laws.proofs.coordinator_laws.flushes_of_the_coordinator_keep_all.Goals as goal

pub returns : goal.returns
returns g c = flushes_rest g.W.Contents.coordinator g.W.Contents.coordinator_after g.W.Contents.shard
