use Rattle.turns.proofs.ShardCheckSeam.{check_turns, check_yes_turns, refused_checks_have_cause}
use Rattle.turns.proofs.shard_seam_laws.check_takes_its_turn.Goals as goal

pub returns-clause-walks : goal.returns-clause-walks
returns-clause-walks g c = λ store shards. check_turns store shards g.W.Leavings.left _

pub returns-clause-yes : goal.returns-clause-yes
returns-clause-yes g c = λ store shards. check_yes_turns store shards g.W.Leavings.left _

pub returns-clause-refused : goal.returns-clause-refused
returns-clause-refused g c = λ store shards. refused_checks_have_cause store shards g.W.Leavings.left _
