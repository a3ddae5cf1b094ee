use Rattle.std.specs.Prelude.{◌≡◌, ◌+◌, ◌-◌, ◌^◌, ◌<◌, [], min}
use Rattle.std.proofs.Common.{length}
use Rattle.journal.specs.Measures.{bytes_of}
use Rattle.journal.proofs.measure.len_of.Given as goal

abbrev pub invariant-loop-next : goal.invariant-loop-next
invariant-loop-next g l = record { empty : l.piece ≡ []; fits : l.len < 2 ^ 64; sum : min (bytes_of (g.S.Source.records l.source) + l.len) (2 ^ 64 - 1) ≡ min (bytes_of (g.S.Source.records l.fn.source)) (2 ^ 64 - 1) }

abbrev pub decreases-loop-next : goal.decreases-loop-next
decreases-loop-next g l = length (g.S.Source.records l.source)
