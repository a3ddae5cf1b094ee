use Rattle.std.proofs.Common.{Option, Some, sym, subst}
use Rattle.sides.proofs.Words.{LendsIn, NodeView}
use Rattle.sides.proofs.Lendings.{lent_is_there, lent_is_tied}
use Rattle.sides.proofs.shard_side.ShardSide.lend.Goals as goal

pub invariant_of-side : goal.invariant_of-side
invariant_of-side g c =
    let inv = c.self.invariant in
    let lends = subst (λ (n : Option (NodeView g.row.D.Denot)). LendsIn g.D.Device.state g.D.Device.honest n (Some c.in-Ok.field-0.node) c.in-Ok.field-0.flight c.in-Ok.field-0.flying) (sym c.in-Some.is) c.in-Ok.ensures.ok in (
      inv.0,
      inv.1,
      inv.2,
      lent_is_there g.D.Device.state g.D.Device.honest g.B.Room.store g.B.Room.shards c.self.inside.me.node c.self.inside.node (Some c.in-Ok.field-0.node) c.in-Ok.field-0.flight c.in-Ok.field-0.flying lends inv.3,
      λ rests. lent_is_tied g.D.Device.state g.D.Device.honest g.B.Room.store g.B.Room.shards c.self.inside.me.node c.self.inside.node (Some c.in-Ok.field-0.node) c.in-Ok.field-0.flight c.in-Ok.field-0.flying c.self.inside.pass lends (inv.4 rests),
    )
