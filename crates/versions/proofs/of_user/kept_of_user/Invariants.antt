use Rattle.std.proofs.Common.{◌≡◌, ◌≤◌, ◌+◌, ◌++◌}
use Rattle.tuples.specs.declared.tuple.Tuple.{Tuple}
use Rattle.tuples.specs.Reads.{meets}
use Rattle.versions.specs.Budget.{weights}
use Rattle.versions.specs.Index.{IsFirstOf}
use Rattle.versions.specs.Rows.{listed}
use Rattle.versions.proofs.Counted.{sum_of}
use Rattle.versions.proofs.OfUser.{IsWalkBy, asked_of, chosen_of}
use Rattle.versions.proofs.of_user.kept_of_user.Given as goal

-- the tuples so far, and those that are left of the index; the rows so far, and those that are left to look at
abbrev pub invariant-loop-named : goal.invariant-loop-named
invariant-loop-named g l = ((first : Tuple) × IsFirstOf l.asked.namespace.now l.asked.user.now first × IsWalkBy first l.named-iterator)
    × (l.tuples.items ++ chosen_of l.place (meets (asked_of l.asked)) l.table.entries l.named-iterator ≡ chosen_of l.place (meets (asked_of l.asked)) l.table.entries l.users.keys)
    × (l.steps + sum_of (meets (asked_of l.asked)) (listed l.table.entries) l.named-iterator ≤ l.fn.steps + sum_of (meets (asked_of l.asked)) (listed l.table.entries) l.users.keys)
    × (l.budget + weights l.tuples.items ≡ l.fn.budget)
