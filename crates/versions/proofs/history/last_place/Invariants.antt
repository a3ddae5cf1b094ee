use Rattle.std.proofs.Common.{◌≡◌, max, drop}
use Rattle.versions.proofs.Histories.{greatest}
use Rattle.versions.proofs.history.last_place.Given as goal

-- what is found, or a greater place from here on
abbrev pub invariant-loop-row : goal.invariant-loop-row
invariant-loop-row l = greatest l.rows ≡ max l.last (greatest (drop l.row-index l.rows))
