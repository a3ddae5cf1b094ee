use Rattle.std.proofs.Common.{◌≡◌, drop}
use Rattle.std.specs.List.{list_any}
use Rattle.tuples.specs.Changes.{changed}
use Rattle.holds.specs.Holds.{is_in}
use Rattle.holds.proofs.held.holds_change.Given as goal

-- one is held if one is held from here on
abbrev pub invariant-loop-change : goal.invariant-loop-change
invariant-loop-change l = list_any (is_in l.held.keys) (changed l.changes) ≡ list_any (is_in l.held.keys) (changed (drop l.change-index l.changes))
