use Rattle.turns.proofs.ShardReadSeam.{read_one_turns, read_turns, refused_reads_have_cause}
use Rattle.turns.proofs.shard_seam_laws.read_takes_its_turn.Goals as goal

pub returns-clause-next : goal.returns-clause-next
returns-clause-next g c = λ store shards. read_turns store shards g.W.Leavings.left g.D.Device.state g.D.Device.honest

pub returns-clause-one : goal.returns-clause-one
returns-clause-one g c = λ store shards. read_one_turns store shards g.W.Leavings.left g.D.Device.state g.D.Device.honest

pub returns-clause-refused : goal.returns-clause-refused
returns-clause-refused g c = λ store shards. refused_reads_have_cause store shards g.W.Leavings.left g.D.Device.state g.D.Device.honest
