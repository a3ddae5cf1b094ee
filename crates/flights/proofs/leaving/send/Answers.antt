use Rattle.std.proofs.Common.{ℕ, sym, subst}
use Rattle.flights.proofs.Words.{AreRowsAround, Entry, Known, launch_of}
use Rattle.flights.proofs.Launched.{left_behind, lent_sound, rows_around}
use Rattle.flights.proofs.leaving.send.Goals as goal

pub leave-requires-clause-out : goal.leave-requires-clause-out
leave-requires-clause-out g c =
    let lent = c.in-Ok.field-0 in
    let old = c.args.side.node in
    record {
      sound = lent_sound g.D.Device.state g.D.Device.honest old lent.side.node lent.flight lent.flying c.in-Ok.ensures.lends c.requires.sound c.requires.up;
      stays = left_behind g.D.Device.state g.D.Device.honest old lent.side.node lent.flight lent.flying c.in-Ok.ensures.lends c.requires.sound c.requires.up;
      rows = λ rests.
          let around = rows_around g.D.Device.state g.D.Device.honest g.B.Room.store g.B.Room.shards c.args.side.number old lent.side.node lent.flight lent.flying c.args.side.pass c.in-Ok.ensures.lends c.requires.up (c.keeps.ensures.tied rests) in
          subst (λ (n : ℕ). AreRowsAround g.B.Room.shards n (launch_of lent.flight lent.flying) lent.side.pass) (sym c.in-Ok.ensures.same.0)
          (subst (λ (k : Known Entry). AreRowsAround g.B.Room.shards c.args.side.number (launch_of lent.flight lent.flying) k) (sym c.in-Ok.ensures.same.1) around);
    }
