use Rattle.std.proofs.Common.{◌↔◌, drop}
use Rattle.tuples.specs.Changes.{AreDistinct, changed}
use Rattle.tuples.proofs.write.are_changes_apart.Given as goal

-- none stands twice if none does from here on
abbrev pub invariant-loop-i : goal.invariant-loop-i
invariant-loop-i l = AreDistinct (changed l.changes) ↔ AreDistinct (changed (drop l.i l.changes))
