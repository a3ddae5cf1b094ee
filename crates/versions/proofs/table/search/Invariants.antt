use Rattle.std.proofs.Common.{◌≡◌}
use Rattle.versions.specs.Rows.{found}
use Rattle.versions.proofs.table.search.Given as goal

-- what is found is found in the rest
abbrev pub invariant-loop-key : goal.invariant-loop-key
invariant-loop-key l = found l.tuple l.key-iterator ≡ found l.tuple l.table.entries
