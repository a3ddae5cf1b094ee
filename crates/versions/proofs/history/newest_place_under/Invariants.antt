use Rattle.std.proofs.Common.{◌≡◌, max, drop}
use Rattle.versions.specs.Rows.{newest_under}
use Rattle.versions.proofs.history.newest_place_under.Given as goal

-- what is found, or a greater place from here on
abbrev pub invariant-loop-row : goal.invariant-loop-row
invariant-loop-row l = newest_under l.horizon l.rows ≡ max l.newest (newest_under l.horizon (drop l.row-index l.rows))
