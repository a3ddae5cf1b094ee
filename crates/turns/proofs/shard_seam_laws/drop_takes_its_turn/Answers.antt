use Rattle.turns.proofs.ShardLearnSeam.{drop_turns, resolved_drop_turns}
use Rattle.turns.proofs.shard_seam_laws.drop_takes_its_turn.Goals as goal

pub returns-clause-own : goal.returns-clause-own
returns-clause-own g c = λ store shards. drop_turns store shards g.W.Leavings.left g.D.Device.state g.D.Device.honest

pub returns-clause-resolved : goal.returns-clause-resolved
returns-clause-resolved g c = λ store shards. resolved_drop_turns store shards g.W.Leavings.left g.D.Device.state g.D.Device.honest
