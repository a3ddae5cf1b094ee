use Rattle.std.proofs.Common.{◌≡◌, ◌++◌, take}
use Rattle.tuples.specs.Versions.{placed}
use Rattle.versions.specs.Alike.{AreAlike}
use Rattle.versions.specs.Index.{IsIndex}
use Rattle.versions.specs.Rows.{IsTable, listed}
use Rattle.versions.proofs.applying.add_changes.Given as goal

-- the changes so far have been added
abbrev pub invariant-loop-change : goal.invariant-loop-change
invariant-loop-change l = IsTable l.table.entries × AreAlike (listed l.table.entries) (listed l.fn.table.entries ++ placed l.place (take l.change-index l.changes)) × (l.added ≡ l.change-index) × IsIndex l.users.keys l.table.entries
