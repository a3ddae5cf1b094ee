use Rattle.std.proofs.Common.{Option, Some, sym, subst}
use Rattle.sides.proofs.Words.{LendsIn, NodeView}
use Rattle.sides.proofs.LogLendings.{lent_log_sound, lent_log_tied}
use Rattle.sides.proofs.coordinator_side.CoordinatorSide.lend.Goals as goal

pub invariant_of-side : goal.invariant_of-side
invariant_of-side g c =
    let inv = c.self.invariant in
    let new = Some c.in-Ok.field-0.node in
    let lends = subst (λ (n : Option (NodeView g.row.D.Denot)). LendsIn g.D.Device.state g.D.Device.honest n new c.in-Ok.field-0.flight c.in-Ok.field-0.flying) (sym c.in-Some.is) c.in-Ok.ensures.ok in (
      inv.0,
      inv.1,
      lent_log_sound g.D.Device.state g.D.Device.honest g.B.Room.store g.B.Room.shards c.self.inside.node new c.in-Ok.field-0.flight c.in-Ok.field-0.flying lends inv.2,
      λ rests. lent_log_tied g.D.Device.state g.D.Device.honest g.B.Room.store g.B.Room.shards c.self.inside.node new c.in-Ok.field-0.flight c.in-Ok.field-0.flying c.self.inside.log.seen c.self.inside.log.horizon c.self.inside.attempts.seen lends (inv.3 rests),
      inv.4,
    )
