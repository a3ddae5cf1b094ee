use Rattle.shard.proofs.Openings.{SoFar}
use Rattle.shard.proofs.opening.ShardKindNodeKind.replayed.Given as goal

abbrev pub invariant-loop-replay : goal.invariant-loop-replay
invariant-loop-replay l = SoFar l.me l.fn.unread.records l.unread l.replay

abbrev pub decreases-loop-replay : goal.decreases-loop-replay
decreases-loop-replay l = l.unread.steps
