use Rattle.turns.proofs.ShardLearnSeam.{collect_turns, refused_collects_have_cause}
use Rattle.turns.proofs.shard_seam_laws.collect_takes_its_turn.Goals as goal

pub returns-clause-ok : goal.returns-clause-ok
returns-clause-ok g c = λ store shards. collect_turns store shards g.W.Leavings.left g.D.Device.state g.D.Device.honest

pub returns-clause-full : goal.returns-clause-full
returns-clause-full g c = λ store shards. refused_collects_have_cause store shards g.W.Leavings.left g.D.Device.state g.D.Device.honest
