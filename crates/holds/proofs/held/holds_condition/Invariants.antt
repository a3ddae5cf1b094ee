use Rattle.std.proofs.Common.{◌≡◌, drop}
use Rattle.std.specs.List.{list_any}
use Rattle.tuples.specs.Changes.{conditioned}
use Rattle.holds.specs.Holds.{is_in}
use Rattle.holds.proofs.held.holds_condition.Given as goal

-- one is held if one is held from here on
abbrev pub invariant-loop-condition : goal.invariant-loop-condition
invariant-loop-condition l = list_any (is_in l.held.keys) (conditioned l.conditions) ≡ list_any (is_in l.held.keys) (conditioned (drop l.condition-index l.conditions))
