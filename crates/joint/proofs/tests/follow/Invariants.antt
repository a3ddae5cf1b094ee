use Rattle.std.specs.Prelude.{[], Some, None}
use Rattle.joint.proofs.tests.follow.Given as goal

abbrev pub ghosts-follow_by : goal.ghosts-follow_by
ghosts-follow_by a = record { part = Some a.to; goods = None; facts = [] }
