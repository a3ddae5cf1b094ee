use Rattle.std.proofs.Common.{arith}
use Rattle.journal.specs.Sources.{record_of}
use Rattle.journal.proofs.Measured.{bytes_more, bytes_none}
use Rattle.journal.proofs.measure.len_of.Goals as goal

pub loop-next-preserved : goal.loop-next-preserved
loop-next-preserved g c =
    let got = rw c.in-Some.is at c.next.ensures in
    record {
      empty = c.record_len.ensures.empty;
      fits = omega (arith, c.saturating_add-len.ensures);
      sum = omega (
        arith,
        c.loop-next.invariant.sum,
        c.record_len.ensures.len,
        c.saturating_add-len.ensures,
        bytes_more (g.S.Source.records c.loop-next.source) (g.S.Source.records c.next.new.self) (record_of c.in-Some.next) got.0,
      );
    }

pub returns : goal.returns
returns g c =
    let none = rw c.in_default.is at c.next.ensures in
    omega (arith, c.loop-next.invariant.fits, c.loop-next.invariant.sum, bytes_none (g.S.Source.records c.loop-next.source) none)
