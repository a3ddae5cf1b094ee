use Rattle.std.proofs.Common.{length, ap, arith}
use Rattle.journal.proofs.Staged.{staged_is}
use Rattle.journal.proofs.batch.Batch.len.Goals as goal

pub returns : goal.returns
returns c = omega (arith, c.self.invariant.number, ap length (staged_is _ _ _ c.self.invariant), ap length c.self.view_is)
