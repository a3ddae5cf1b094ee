use Rattle.std.proofs.Common.{◌↔◌, drop}
use Rattle.tuples.specs.Changes.{AreDistinct, conditioned}
use Rattle.tuples.proofs.write.are_conditions_distinct.Given as goal

-- none stands twice if none does from here on
abbrev pub invariant-loop-i : goal.invariant-loop-i
invariant-loop-i l = AreDistinct (conditioned l.conditions) ↔ AreDistinct (conditioned (drop l.i l.conditions))
