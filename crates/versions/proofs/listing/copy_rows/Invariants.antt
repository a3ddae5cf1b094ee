use Rattle.std.proofs.Common.{◌≡◌, ◌++◌, take}
use Rattle.versions.specs.Rows.{versions_of}
use Rattle.versions.proofs.listing.copy_rows.Given as goal

-- the rows so far are copied
abbrev pub invariant-loop-row : goal.invariant-loop-row
invariant-loop-row l = l.versions.items ≡ l.fn.versions.items ++ versions_of l.tuple (take l.row-index l.rows)
