-- What was answered belongs to the call, and a shard is still the one that was opened.
use Rattle.std.proofs.Common.{subst, sym}
use Rattle.calls.specs.Asking.{MayAsk}
use Rattle.calls.specs.Views.{NodeView}
use Rattle.calls.proofs.Belonging.{answered_belongs, kept_beside, shard_stays}
use Rattle.calls.proofs.asking.ask.Goals as goal

pub returns-clause-belongs : goal.returns-clause-belongs
returns-clause-belongs g c =
    let may = subst (λ (n : NodeView g.row.D.Denot). MayAsk n c.args.call) (sym c.node.view_is) c.requires in
    answered_belongs g.D.Device.state g.D.Device.honest g.D.Device.moment g.D.Device.left_since _ c.args.call c.make-reply.result _ may c.make-reply.ensures

pub invariant_of-node : goal.invariant_of-node
invariant_of-node g c =
    let same = shard_stays g.D.Device.state g.D.Device.honest g.D.Device.moment g.D.Device.left_since _ c.args.call c.make-reply.result _ c.make-reply.ensures in
    kept_beside c.node.inside.me c.node.inside.opened c.make-reply.new.opened same c.node.invariant
