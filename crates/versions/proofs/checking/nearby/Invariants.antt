use Rattle.std.proofs.Common.{◌≡◌, ◌+◌, ◌++◌}
use Rattle.tuples.specs.Checking.{holding}
use Rattle.tuples.specs.Walking.{meets_check}
use Rattle.versions.specs.Budget.{weights}
use Rattle.versions.proofs.Selected.{IsWalk, kept_of}
use Rattle.versions.proofs.checking.nearby.Given as goal

-- the tuples so far, and those of the entries that are left
abbrev pub invariant-loop-tuple : goal.invariant-loop-tuple
invariant-loop-tuple g l = IsWalk (holding l.userset l.user) l.tuple-iterator
    × (l.tuples.items ++ kept_of l.place (meets_check l.userset l.user) l.tuple-iterator ≡ kept_of l.place (meets_check l.userset l.user) l.table.entries)
    × (l.budget + weights l.tuples.items ≡ l.fn.budget)
