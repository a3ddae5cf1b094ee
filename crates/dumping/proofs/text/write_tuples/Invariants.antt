use Rattle.std.proofs.Common.{◌≡◌, ◌++◌, take}
use Rattle.std.specs.List.{flat_map}
use Rattle.dumping.specs.Dumped.{tuple_line}
use Rattle.dumping.proofs.text.write_tuples.Given as goal

-- the lines so far
abbrev pub invariant-loop-tuple : goal.invariant-loop-tuple
invariant-loop-tuple l = l.out.items ≡ l.fn.out.items ++ flat_map tuple_line (take l.tuple-index l.tuples)
