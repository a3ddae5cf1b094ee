use Rattle.turns.proofs.ShardReadSeam.{settle_turns}
use Rattle.turns.proofs.shard_seam_laws.settle_takes_its_turn.Goals as goal

pub returns : goal.returns
returns g c = λ store shards. settle_turns store shards g.W.Leavings.left g.D.Device.state g.D.Device.honest
