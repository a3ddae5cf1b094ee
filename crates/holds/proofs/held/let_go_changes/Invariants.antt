use Rattle.std.proofs.Common.{◌≡◌, ◌&&◌, not, take}
use Rattle.tuples.specs.declared.tuple.Tuple.{Tuple}
use Rattle.tuples.specs.Changes.{changed, has_tuple}
use Rattle.holds.specs.Holds.{is_in}
use Rattle.holds.proofs.held.let_go_changes.Given as goal

-- the tuples so far are held no longer
abbrev pub invariant-loop-change : goal.invariant-loop-change
invariant-loop-change l = (t : Tuple) → is_in l.held.keys t ≡ (not (has_tuple t (changed (take l.change-index l.changes))) && is_in l.fn.held.keys t)
