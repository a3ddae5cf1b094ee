use Rattle.std.proofs.Common.{◌≡◌, ◌↔◌}
use Rattle.tuples.proofs.part.are_changes.Given as goal

-- they are the same if what is left of them is
abbrev pub invariant-loop-own : goal.invariant-loop-own
invariant-loop-own l = (l.fn.changes ≡ l.fn.part) ↔ (l.rest ≡ l.own-iterator)
