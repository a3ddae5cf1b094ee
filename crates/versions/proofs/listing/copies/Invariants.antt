use Rattle.std.proofs.Common.{◌≡◌, ◌++◌}
use Rattle.versions.specs.Rows.{listed}
use Rattle.versions.proofs.listing.copies.Given as goal

-- the copies, and the entries that are left
abbrev pub invariant-loop-tuple : goal.invariant-loop-tuple
invariant-loop-tuple l = l.versions.items ++ listed l.tuple-iterator ≡ listed l.table.entries
