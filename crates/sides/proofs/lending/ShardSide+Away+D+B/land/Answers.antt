use Rattle.std.proofs.Common.{Option, Some, sym, subst}
use Rattle.sides.proofs.Words.{Away, LandsIn, LandsRows, MayLandIn, NodeView, Side}
use Rattle.sides.proofs.Lendings.{landed_is_there, landed_is_tied}
use Rattle.sides.proofs.lending.ShardSide+Away+D+B.land.Goals as goal

pub invariant_of-side : goal.invariant_of-side
invariant_of-side g c =
    let inv = c.self.invariant in
    let new = Some c.land-node.result.0 in
    let lands = subst (λ (n : Option (NodeView (Away g.row.D.Denot))). LandsIn g.D.Device.state g.D.Device.honest n c.args.flown c.args.flying new) (sym c.in-Some.is) c.land-node.ensures in
    let may = subst (λ (v : Side (Away g.row.D.Denot)). MayLandIn g.D.Device.state g.D.Device.honest v.node c.args.flown c.args.flying) (sym c.self.view_is) c.requires.may in (
      inv.0,
      inv.1,
      inv.2,
      landed_is_there g.D.Device.state g.D.Device.honest g.B.Room.store g.B.Room.shards c.self.inside.me.node c.self.inside.node c.args.flown c.args.flying new lands inv.3,
      λ rests. landed_is_tied g.D.Device.state g.D.Device.honest g.B.Room.store g.B.Room.shards c.self.inside.me.node c.self.inside.node c.args.flown c.args.flying new c.self.inside.pass may lands
          (subst (λ (v : Side (Away g.row.D.Denot)). LandsRows g.D.Device.state g.D.Device.honest g.B.Room.shards v.number c.args.flown v.pass.seen v.pass.horizon) (sym c.self.view_is) (c.requires.rows rests)) (inv.4 rests),
    )
