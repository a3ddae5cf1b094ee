-- The intent that comes back is that of the write.
use Rattle.std.proofs.Common.{refl}
use Rattle.commit_flow.proofs.giving.give_prepare.Goals as goal

pub prepared-requires-clause-own : goal.prepared-requires-clause-own
prepared-requires-clause-own c =
    let s = c.in-Shard-StagePrepare in
    let fits = rw (s.is, s.field-0-is) at c.requires.fits in
    fits.0 c.args.asked.id refl
