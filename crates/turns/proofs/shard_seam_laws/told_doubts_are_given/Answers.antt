use Rattle.turns.proofs.ShardReadSeam.{told_doubts_are_given}
use Rattle.turns.proofs.shard_seam_laws.told_doubts_are_given.Goals as goal

pub returns : goal.returns
returns g c = λ store shards. told_doubts_are_given store shards g.W.Leavings.left g.D.Device.state g.D.Device.honest
