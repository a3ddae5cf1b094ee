use Rattle.std.proofs.Common.{◌≡◌, true, take}
use Rattle.holds.specs.Holds.{is_in}
use Rattle.tuples.specs.declared.tuple.Tuple.{Tuple}
use Rattle.dumping.specs.Gathering.{HasAll}
use Rattle.dumping.proofs.found.put_all.Given as goal

-- the tuples of the versions so far are in the set, beside those that were
abbrev pub invariant-loop-version : goal.invariant-loop-version
invariant-loop-version l = HasAll l.found.keys (take l.version-index l.versions) × ((t : Tuple) → is_in l.fn.found.keys t ≡ true → is_in l.found.keys t ≡ true)
