-- The steps so far were taken, and told what is after the events that there were.
use Rattle.cluster.proofs.Runs.{RanSoFar}
use Rattle.cluster.proofs.running.run.Given as goal

abbrev pub invariant-loop-number : goal.invariant-loop-number
invariant-loop-number g l = RanSoFar g.D.Device.state g.D.Device.honest g.D.Device.moment g.D.Device.left_since l.initial.world l.steps l.number l.initial.events.items l.world l.events.items
