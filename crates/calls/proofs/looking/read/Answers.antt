use Rattle.std.proofs.Common.{refl}
use Rattle.calls.proofs.Learning.{reads, reads_for_check}
use Rattle.calls.proofs.looking.read.Goals as goal

pub returns-in-Read : goal.returns-in-Read
returns-in-Read g c = let e = c.read.ensures in rw c.in-Read.is (
  refl,
  refl,
  record {
    rows = λ ts up. reads c.args.shard.now c.in-Read.place c.in-Read.set ts c.read.result (rw c.get.ensures at (e.rows ts up));
    behind = e.behind;
    collected = e.collected;
    down = e.down;
    err = e.err;
  },
)

pub returns-in-ReadForCheck : goal.returns-in-ReadForCheck
returns-in-ReadForCheck g c = let e = c.read_for_check.ensures in rw c.in-ReadForCheck.is (
  refl,
  refl,
  refl,
  record {
    rows = λ ts up. reads_for_check c.args.shard.now c.in-ReadForCheck.place c.in-ReadForCheck.userset c.in-ReadForCheck.user ts c.read_for_check.result (rw (c.get-in-ReadForCheck.ensures, c.get-in-ReadForCheck-2.ensures) at (e.rows ts up));
    behind = e.behind;
    collected = e.collected;
    down = e.down;
    err = e.err;
  },
)
