use Rattle.laws.proofs.LessLeft.{flushes_leave_less}
use Rattle.laws.proofs.stop_laws.flushes_leave_less.Goals as goal

pub returns : goal.returns
returns g c = flushes_leave_less g.W.Contents.coordinator g.W.Contents.coordinator_after g.W.Contents.shard g.W.Contents.shard_after
