use Rattle.std.proofs.Common.{length, ap, arith}
use Rattle.journal.proofs.Staged.{flies_whole, staged_is}
use Rattle.journal.proofs.batch.Batch.size.Goals as goal

pub returns-clause-all : goal.returns-clause-all
returns-clause-all c = omega (arith, c.self.invariant.number, ap length (staged_is _ _ _ c.self.invariant), ap length c.self.view_is)

pub returns-clause-sent : goal.returns-clause-sent
returns-clause-sent c = flies_whole _ _ _ c.self.invariant _ c.self.view_is _ (omega (arith, c.len.ensures, c.self.invariant.front))
