use Rattle.laws.proofs.EmptyStore.{empty_rests}
use Rattle.laws.proofs.stop_laws.an_empty_store_rests.Goals as goal

pub returns : goal.returns
returns g c = empty_rests g.W.Contents.coordinator g.W.Contents.coordinator_after g.W.Contents.shard g.W.Contents.shard_after
