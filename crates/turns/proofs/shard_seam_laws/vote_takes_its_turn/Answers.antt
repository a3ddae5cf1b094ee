use Rattle.turns.proofs.ShardPrepareSeam.{refused_vote_turns, vote_turns_of}
use Rattle.turns.proofs.shard_seam_laws.vote_takes_its_turn.Goals as goal

pub returns-clause-yes : goal.returns-clause-yes
returns-clause-yes g c = λ store shards. vote_turns_of store shards g.W.Leavings.left g.D.Device.state g.D.Device.honest

pub returns-clause-aborted : goal.returns-clause-aborted
returns-clause-aborted g c = λ store shards. refused_vote_turns store shards g.W.Leavings.left g.D.Device.state g.D.Device.honest
