use Rattle.std.proofs.Common.{◌≡◌}
use Rattle.std.specs.Io.KnownBytes.{Keeps}
use Rattle.serving.proofs.pressing.PressingWrite.write.Given as goal

abbrev pub invariant-loop : goal.invariant-loop
invariant-loop g l = record {
  bytes : Keeps (g.W.Write.contents l.initial.self.output) (g.W.Write.contents l.self.output);
  since : l.self.since ≡ l.initial.self.since;
  taken : l.self.taken ≡ l.initial.self.taken;
}
