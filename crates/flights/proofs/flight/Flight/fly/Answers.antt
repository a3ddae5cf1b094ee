use Rattle.flights.specs.Flights.{launch_of}
use Rattle.flights.proofs.Landed.{has_flown, on_up}
use Rattle.flights.proofs.flight.Flight.fly.Goals as goal

pub invariant_of-result : goal.invariant_of-result
invariant_of-result g c =
    let ready = c.self.invariant.1 in
    let honest_a = c.flush.ensures.honest.0.0 ready.honest_a in
    let honest_b = c.flush.ensures.honest.1.0 ready.honest_b in (
      c.self.invariant.0,
      (
        launch_of c.self.inside.journal c.self.inside.flying,
        c.self.invariant.2,
        has_flown g.D.Device.state g.D.Device.honest g.D.Device.moment g.D.Device.left_since g.met.D.Device.counts_now c.self.inside.journal c.flush.new.self honest_a honest_b
            (c.flush.ensures.any_moment ready.honest_a ready.honest_b ready.up)
            (on_up _ c.flush.result (c.flush.ensures.ok ready.honest_a ready.honest_b) c.flush.ensures.err)
            c.self.inside.flying ready,
      ),
    )
