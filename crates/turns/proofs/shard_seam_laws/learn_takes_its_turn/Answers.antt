use Rattle.turns.proofs.ShardLearnAnswer.{learn_answers}
use Rattle.turns.proofs.ShardLearnSeam.{learn_turns, refused_learns_have_cause}
use Rattle.turns.proofs.shard_seam_laws.learn_takes_its_turn.Goals as goal

pub returns-clause-ok : goal.returns-clause-ok
returns-clause-ok g c = λ store shards. learn_turns store shards g.W.Leavings.left g.D.Device.state g.D.Device.honest

pub returns-clause-refused : goal.returns-clause-refused
returns-clause-refused g c = λ store shards. refused_learns_have_cause store shards g.W.Leavings.left g.D.Device.state g.D.Device.honest

pub returns-clause-ends : goal.returns-clause-ends
returns-clause-ends g c = λ store shards. learn_answers store shards g.W.Leavings.left g.D.Device.state g.D.Device.honest
