use Rattle.std.proofs.Common.{◌≡◌, true, Some, slice_get, sym, ◌∙◌, ap, subst}
use Rattle.flights.proofs.Words.{FlightView}
use Rattle.flights.specs.LogPlaces.{IsLogBerthed, LogPlaceView}
use Rattle.flights.specs.Places.{IsOutFor, place_of}
use Rattle.flights.specs.declared.berth.Berth.TheVariants.{Out}
use Rattle.flights.proofs.coordinator_place.CoordinatorPlace.land.Goals as goal

pub arrive-side-requires-clause-out : goal.arrive-side-requires-clause-out
arrive-side-requires-clause-out g c =
    let side = c.in-Some-Out.side in
    let number = c.in-Some-Out.field-0-1 in
    let is : c.self.inside.berth ≡ Some (Out side number) = search in
    let there = subst (IsLogBerthed c.self.inside.pass.seen) is c.self.invariant.1 in
    let waits : c.awaits.result ≡ true = search in
    let same : number ≡ c.args.flown.launch = subst (λ (v : LogPlaceView g.row.D.Denot). IsOutFor c.args.flown.launch v) (sym c.self.view_is ∙ ap place_of is) (subst (λ (f : FlightView g.row.D.Denot). IsOutFor f.launch c.args.self.now) c.flown.view_is (c.awaits.ensures.0 waits)) in
    (there.0, ap (slice_get c.self.inside.pass.seen) (sym same) ∙ there.1, there.2)
