use Rattle.std.proofs.Common.{◌≤◌, ◌++◌, ℕ, List, take, length}
use Rattle.tuples.specs.Versions.{placed}
use Rattle.tuples.specs.declared.version.Version.{Version}
use Rattle.versions.specs.Alike.{AreAlike}
use Rattle.versions.specs.Index.{IsIndex}
use Rattle.versions.specs.Rows.{IsTable, listed}
use Rattle.versions.proofs.applying.take_back_changes.Given as goal

-- so many of the first changes are left
abbrev pub invariant-loop-left : goal.invariant-loop-left
invariant-loop-left l = IsTable l.table.entries × (l.left ≤ length l.changes) × ((before : List Version) (place : ℕ) → AreAlike (listed l.fn.table.entries) (before ++ placed place l.changes) → AreAlike (listed l.table.entries) (before ++ placed place (take l.left l.changes))) × IsIndex l.users.keys l.table.entries

abbrev pub decreases-loop-left : goal.decreases-loop-left
decreases-loop-left l = l.left
