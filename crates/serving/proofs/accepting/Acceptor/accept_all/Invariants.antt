use Rattle.std.proofs.Common.{◌≡◌, ◌≤◌}
use Rattle.serving.proofs.accepting.Acceptor.accept_all.Given as goal

abbrev pub invariant-loop : goal.invariant-loop
invariant-loop g l = record {
  put : l.self.pass.put ≤ l.most;
  passes : l.self.pass.passes ≡ l.initial.self.pass.passes;
  hall : l.self.hall ≡ l.initial.self.hall;
}
