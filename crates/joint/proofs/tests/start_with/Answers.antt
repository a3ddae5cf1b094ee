use Rattle.joint.proofs.Counting.{starts}
use Rattle.joint.proofs.tests.start_with.Goals as goal

pub new-requires : goal.new-requires
new-requires g c = record { starts = rw (c.requires.0, c.requires.1) starts }
