use Rattle.std.proofs.Common.{◌≡◌, ◌++◌, length}
use Rattle.versions.specs.Rows.{listed}
use Rattle.versions.specs.Walks.{own_left}
use Rattle.versions.proofs.walk.Walk.next.Given as goal

abbrev pub invariant-loop-told : goal.invariant-loop-told
invariant-loop-told l = own_left l.self-inside.own ++ listed l.self-inside.entries ≡ l.fn.self

abbrev pub decreases-loop-told : goal.decreases-loop-told
decreases-loop-told l = length l.self-inside.entries
