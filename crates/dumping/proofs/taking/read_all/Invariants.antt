use Rattle.std.proofs.Common.{◌≡◌, ◌++◌, List}
use Rattle.tuples.specs.declared.tuple.Tuple.{Tuple}
use Rattle.dumping.specs.Gathering.{AllRead}
use Rattle.dumping.proofs.taking.read_all.Given as goal

-- those that were read, and those that are left
abbrev pub invariant-loop-tuple : goal.invariant-loop-tuple
invariant-loop-tuple g l = (done rows : List Tuple) × (done ++ l.tuple-iterator ≡ l.found.keys) × AllRead g.S.Store.takes g.S.Store.nexts l.place done l.fn.store rows l.store
    × (l.tuples.items ≡ l.fn.tuples.items ++ rows)
