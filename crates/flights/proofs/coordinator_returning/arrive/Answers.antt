use Rattle.std.proofs.Common.{◌≡◌, Some, slice_get, sym, subst}
use Rattle.flights.proofs.Words.{FlightView, HasFlown, Launch}
use Rattle.flights.proofs.Landed.{same_launch}
use Rattle.flights.proofs.LogLanded.{log_comes_back, log_may_land}
use Rattle.flights.proofs.coordinator_returning.arrive.Goals as goal

pub land-requires-clause-may : goal.land-requires-clause-may
land-requires-clause-may g c =
    let out = c.requires.out in let inv = c.flown.invariant in
    let same = same_launch c.args.pass.now.seen c.flown.inside.pass.seen c.share.new.one.seen c.flown.inside.launch out.0 inv.1.0 c.share.ensures.one.0 c.share.ensures.one.1
    (subst (λ (v : FlightView g.row.D.Denot). slice_get c.args.pass.now.seen v.launch ≡ Some out.0) (sym c.flown.view_is) out.1) inv.1.1 in
    let came = subst (λ (x : Launch). HasFlown g.D.Device.state g.D.Device.honest x c.flown.inside.journal c.flown.inside.flying) (sym same) inv.1.2 in
    log_may_land g.D.Device.state g.D.Device.honest g.B.Room.store g.B.Room.shards c.args.side.node out.0 c.flown.inside.journal c.flown.inside.flying c.keeps.ensures.sound out.2 came

pub land-requires-clause-comes : goal.land-requires-clause-comes
land-requires-clause-comes g c =
    let out = c.requires.out in let inv = c.flown.invariant in
    let same = same_launch c.args.pass.now.seen c.flown.inside.pass.seen c.share.new.one.seen c.flown.inside.launch out.0 inv.1.0 c.share.ensures.one.0 c.share.ensures.one.1
    (subst (λ (v : FlightView g.row.D.Denot). slice_get c.args.pass.now.seen v.launch ≡ Some out.0) (sym c.flown.view_is) out.1) inv.1.1 in
    let came = subst (λ (x : Launch). HasFlown g.D.Device.state g.D.Device.honest x c.flown.inside.journal c.flown.inside.flying) (sym same) inv.1.2 in
    log_comes_back g.D.Device.state g.D.Device.honest g.B.Room.store g.B.Room.shards c.args.side.node out.0 c.flown.inside.journal c.flown.inside.flying out.2 came
