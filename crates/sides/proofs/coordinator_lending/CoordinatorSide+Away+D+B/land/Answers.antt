use Rattle.std.proofs.Common.{◌∙◌, Option, Some, sym, subst}
use Rattle.sides.proofs.Words.{Away, ComesBackIn, IsSoundThere, LandsIn, MayLandIn, NodeView}
use Rattle.sides.specs.CoordinatorSides.{LogSide}
use Rattle.sides.proofs.LogLendings.{landed_log_sound, landed_may_join}
use Rattle.sides.proofs.coordinator_lending.CoordinatorSide+Away+D+B.land.Goals as goal

pub join-requires-clause-sound : goal.join-requires-clause-sound
join-requires-clause-sound g c =
    let new = Some c.land-node.result.0 in
    let lands = subst (λ (n : Option (NodeView (Away g.row.D.Denot))). LandsIn g.D.Device.state g.D.Device.honest n c.args.flown c.args.flying new) (sym c.in-Some.is) c.land-node.ensures in
    let comes = subst (λ (v : LogSide (Away g.row.D.Denot)). ComesBackIn g.D.Device.state g.D.Device.honest v.node c.args.flown c.args.flying) (sym c.self.view_is) c.requires.comes in
    landed_log_sound g.D.Device.state g.D.Device.honest g.B.Room.store g.B.Room.shards c.self.inside.node c.args.flown c.args.flying new comes lands c.self.invariant.2

pub invariant_of-side : goal.invariant_of-side
invariant_of-side g c =
    let inv = c.self.invariant in
    let new = Some c.land-node.result.0 in
    let lands = subst (λ (n : Option (NodeView (Away g.row.D.Denot))). LandsIn g.D.Device.state g.D.Device.honest n c.args.flown c.args.flying new) (sym c.in-Some.is) c.land-node.ensures in
    let comes = subst (λ (v : LogSide (Away g.row.D.Denot)). ComesBackIn g.D.Device.state g.D.Device.honest v.node c.args.flown c.args.flying) (sym c.self.view_is) c.requires.comes in
    let may = subst (λ (v : LogSide (Away g.row.D.Denot)). MayLandIn g.D.Device.state g.D.Device.honest v.node c.args.flown c.args.flying) (sym c.self.view_is) c.requires.may in (
      c.join.ensures.same ∙ inv.0,
      inv.1,
      subst (IsSoundThere g.D.Device.state g.D.Device.honest g.B.Room.store g.B.Room.shards) (sym c.join.ensures.node) (landed_log_sound g.D.Device.state g.D.Device.honest g.B.Room.store g.B.Room.shards c.self.inside.node c.args.flown c.args.flying new comes lands inv.2),
      λ rests. c.join.ensures.tied c.self.inside.attempts.seen
          (landed_may_join g.D.Device.state g.D.Device.honest g.B.Room.store g.B.Room.shards c.self.inside.node c.args.flown c.args.flying new c.self.inside.log.seen c.self.inside.log.horizon c.self.inside.attempts.seen may comes lands (inv.3 rests)),
      inv.4,
    )
