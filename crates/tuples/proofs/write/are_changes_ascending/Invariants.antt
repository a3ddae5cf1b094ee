use Rattle.std.proofs.Common.{◌≡◌, drop}
use Rattle.tuples.specs.Changes.{are_ascending, changed}
use Rattle.tuples.proofs.write.are_changes_ascending.Given as goal

-- they ascend if those from here on do
abbrev pub invariant-loop-i : goal.invariant-loop-i
invariant-loop-i l = are_ascending (changed l.changes) ≡ are_ascending (changed (drop l.i l.changes))
