use Rattle.std.proofs.Common.{◌≤◌, ◌++◌, List, take, length}
use Rattle.tuples.specs.declared.version.Version.{Version}
use Rattle.versions.specs.Alike.{AreAlike}
use Rattle.versions.specs.Placed.{all_placed}
use Rattle.versions.specs.Index.{IsIndex}
use Rattle.versions.specs.Rows.{IsTable, listed}
use Rattle.versions.proofs.applying.take_back_each.Given as goal

-- so many of the first writes are left
abbrev pub invariant-loop-left : goal.invariant-loop-left
invariant-loop-left l = IsTable l.table.entries × (l.left ≤ length l.writes) × ((before : List Version) → AreAlike (listed l.fn.table.entries) (before ++ all_placed l.writes) → AreAlike (listed l.table.entries) (before ++ all_placed (take l.left l.writes))) × IsIndex l.users.keys l.table.entries

abbrev pub decreases-loop-left : goal.decreases-loop-left
decreases-loop-left l = l.left
