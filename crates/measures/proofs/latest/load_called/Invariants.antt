use Rattle.std.proofs.Common.{◌≡◌}
use Rattle.measures.proofs.latest.load_called.Given as goal

abbrev pub invariant-loop : goal.invariant-loop
invariant-loop l = record { own : l.pass.table ≡ l.words }
