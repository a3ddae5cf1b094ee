use Rattle.coordinator.proofs.Openings.{SoFar}
use Rattle.coordinator.proofs.opening.CoordinatorKindNodeKind.replayed.Given as goal

abbrev pub invariant-loop-so_far : goal.invariant-loop-so_far
invariant-loop-so_far l = SoFar l.me l.fn.unread.records l.unread l.so_far

abbrev pub decreases-loop-so_far : goal.decreases-loop-so_far
decreases-loop-so_far l = l.unread.steps
