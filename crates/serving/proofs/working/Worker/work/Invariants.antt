use Rattle.std.proofs.Common.{◌≡◌, ◌+◌, length}
use Rattle.serving.specs.Working.{AreServed}
use Rattle.serving.proofs.working.Worker.work.Given as goal

abbrev pub invariant-loop : goal.invariant-loop
invariant-loop g l = record {
  hall : l.self.hall ≡ l.initial.self.hall;
  served : AreServed g.F.Fork.begins g.F.Session.Answers.store g.F.Session.Answers.gives l.served.items;
  each : length l.initial.self.pass.taken + length l.served.items ≡ length l.self.pass.taken;
}
