use Rattle.std.proofs.Common.{ap}
use Rattle.connections.specs.declared.connections.rule.View.{View}
use Rattle.connections.proofs.Keeping.{forks_worker}
use Rattle.connections.proofs.connections.Connections.worker.Goals as goal

pub another-pass-requires-clause-rule : goal.another-pass-requires-clause-rule
another-pass-requires-clause-rule g c = forks_worker _ _ (ap (λ (v : View). v.puts) c.acceptor.invariant.0)
