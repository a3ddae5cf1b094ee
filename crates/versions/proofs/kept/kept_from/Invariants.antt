use Rattle.std.proofs.Common.{◌≡◌, ◌≤◌, ◌+◌, ◌++◌}
use Rattle.versions.specs.Budget.{weights}
use Rattle.versions.specs.Index.{count_of}
use Rattle.versions.specs.Rows.{listed}
use Rattle.versions.proofs.Selected.{IsWalk, kept_of}
use Rattle.versions.proofs.kept.kept_from.Given as goal

-- the tuples so far, and those of the entries that are left; the rows so far, and those that are left to look at
abbrev pub invariant-loop-tuple : goal.invariant-loop-tuple
invariant-loop-tuple g l = IsWalk l.fn.first l.tuple-iterator
    × (l.tuples.items ++ kept_of l.place (g.Q.Asks.asks l.asked) l.tuple-iterator ≡ kept_of l.place (g.Q.Asks.asks l.asked) l.table.entries)
    × (l.steps + count_of (g.Q.Asks.asks l.asked) (listed l.tuple-iterator) ≤ l.fn.steps + count_of (g.Q.Asks.asks l.asked) (listed l.table.entries))
    × (l.budget + weights l.tuples.items ≡ l.fn.budget)
