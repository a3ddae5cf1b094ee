use Rattle.std.proofs.Common.{◌≡◌}
use Rattle.std.specs.Io.KnownBytes.{Keeps}
use Rattle.serving.proofs.patient.PatientRead.read.Given as goal

abbrev pub invariant-loop : goal.invariant-loop
invariant-loop g l = record {
  bytes : Keeps (g.R.Read.remaining l.initial.self.input) (g.R.Read.remaining l.self.input);
  line : l.self.line_since ≡ l.initial.self.line_since;
  idle : l.self.patience.idle ≡ l.initial.self.patience.idle;
}
