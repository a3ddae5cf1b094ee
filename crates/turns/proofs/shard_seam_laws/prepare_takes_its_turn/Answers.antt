use Rattle.turns.proofs.ShardPrepareSeam.{prepare_turns_of, refused_prepare_turns}
use Rattle.turns.proofs.shard_seam_laws.prepare_takes_its_turn.Goals as goal

pub returns-clause-ok : goal.returns-clause-ok
returns-clause-ok g c = λ store shards. prepare_turns_of store shards g.W.Leavings.left g.D.Device.state g.D.Device.honest

pub returns-clause-refused : goal.returns-clause-refused
returns-clause-refused g c = λ store shards. refused_prepare_turns store shards g.W.Leavings.left g.D.Device.state g.D.Device.honest
