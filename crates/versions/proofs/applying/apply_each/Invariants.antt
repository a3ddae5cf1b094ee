use Rattle.std.proofs.Common.{◌≡◌, ◌++◌, take}
use Rattle.versions.specs.Alike.{AreAlike}
use Rattle.versions.specs.Placed.{all_placed}
use Rattle.versions.specs.Index.{IsIndex}
use Rattle.versions.specs.Rows.{IsTable, listed}
use Rattle.versions.proofs.applying.apply_each.Given as goal

-- the writes so far have been applied
abbrev pub invariant-loop-write : goal.invariant-loop-write
invariant-loop-write l = IsTable l.table.entries × AreAlike (listed l.table.entries) (listed l.fn.table.entries ++ all_placed (take l.write-index l.writes)) × (l.applied ≡ l.write-index) × IsIndex l.users.keys l.table.entries
