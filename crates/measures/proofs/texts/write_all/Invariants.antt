use Rattle.std.proofs.Common.{◌≡◌, take}
use Rattle.std.specs.List.{flat_map}
use Rattle.tuples.specs.Texts.{tuple_text}
use Rattle.measures.proofs.texts.write_all.Given as goal

-- the texts so far are written
abbrev pub invariant-loop-tuple : goal.invariant-loop-tuple
invariant-loop-tuple l = l.out.items ≡ flat_map tuple_text (take l.tuple-index l.tuples)
