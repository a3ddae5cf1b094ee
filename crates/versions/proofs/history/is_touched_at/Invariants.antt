use Rattle.std.proofs.Common.{◌≡◌, ◌+◌, false, drop}
use Rattle.versions.proofs.Histories.{touched}
use Rattle.versions.proofs.history.is_touched_at.Given as goal

-- what the rows from here on make of it, and how many were looked at
abbrev pub invariant-loop-row : goal.invariant-loop-row
invariant-loop-row g l = (touched l.place false l.rows ≡ touched l.place l.there (drop l.row-index l.rows)) × (l.steps ≡ l.fn.steps + l.row-index)
