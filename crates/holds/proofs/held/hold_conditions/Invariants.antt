use Rattle.std.proofs.Common.{◌≡◌, ◌||◌, take}
use Rattle.tuples.specs.declared.tuple.Tuple.{Tuple}
use Rattle.tuples.specs.Changes.{conditioned, has_tuple}
use Rattle.holds.specs.Holds.{is_in}
use Rattle.holds.proofs.held.hold_conditions.Given as goal

-- the tuples so far are held besides
abbrev pub invariant-loop-condition : goal.invariant-loop-condition
invariant-loop-condition l = (t : Tuple) → is_in l.held.keys t ≡ (has_tuple t (conditioned (take l.condition-index l.conditions)) || is_in l.fn.held.keys t)
