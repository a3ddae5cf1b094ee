use Rattle.std.proofs.Common.{◌≡◌, ap, ◌+◌, suc, arith}
use Rattle.connections.specs.declared.connections.rule.View.{View}
use Rattle.connections.proofs.Keeping.{puts, learns}
use Rattle.connections.proofs.connections.Connections.put.Goals as goal

pub push_as-requires-clause-rule : goal.push_as-requires-clause-rule
push_as-requires-clause-rule g c =
    let known = c.acceptor.invariant.0 in
    let was = ap (λ (h : View). h.put) known in
    let number : c.acceptor.inside.put + 1 ≡ suc c.acceptor.inside.pass.me.0.client.put = omega (arith, was) in
    (puts _ _ _ _ (ap (λ (h : View). h.puts) known) number, learns _ _)
