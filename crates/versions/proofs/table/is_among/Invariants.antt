use Rattle.std.proofs.Common.{◌≡◌}
use Rattle.std.specs.Prelude.{is_some}
use Rattle.versions.specs.Rows.{found}
use Rattle.versions.proofs.table.is_among.Given as goal

-- the tuple is found in the rest if it is found at all
abbrev pub invariant-loop-key : goal.invariant-loop-key
invariant-loop-key l = is_some (found l.named l.key-iterator) ≡ is_some (found l.named l.table.entries)
