use Rattle.joint.proofs.Counting.{counts_keep}
use Rattle.joint.proofs.tests.count_by.Goals as goal

pub change-requires-clause-keeps : goal.change-requires-clause-keeps
change-requires-clause-keeps g c = rw (c.requires.picks.0, c.requires.picks.1, c.requires.picks.2) (counts_keep c.args.pass.now c.args.from c.args.to c.requires.part.0 c.requires.rises)
