use Rattle.std.proofs.Common.{length}
use Rattle.journal.proofs.Checkpoints.{SoFar}
use Rattle.journal.proofs.checkpoint.put_all.Given as goal

abbrev pub invariant-loop-next : goal.invariant-loop-next
invariant-loop-next g l = SoFar g.D.Device.state g.D.Device.honest g.D.Device.moment g.D.Device.left_since l.fn.log l.log l.fn.piece l.piece (g.S.Source.records l.fn.source) (g.S.Source.records l.source)

abbrev pub decreases-loop-next : goal.decreases-loop-next
decreases-loop-next g l = length (g.S.Source.records l.source)
