use Rattle.std.proofs.Common.{◌++◌, ◌∙◌, ap, sym, subst}
use Rattle.journal.specs.Records.{View}
use Rattle.cases.proofs.Flown.{all_durable}
use Rattle.cases.proofs.flights.fly_coordinator.Goals as goal
use Rattle.tuples.proofs.Options.{went_well}

pub land-back-requires-clause-flown : goal.land-back-requires-clause-flown
land-back-requires-clause-flown g c = λ up flew ha hb.
    let l = c.lend-lent.ensures in
    let f = c.flush-flushed.ensures in
    let stays = l.stays in
    let was_a = f.honest.0.1 ha in
    let was_b = f.honest.1.1 hb in
    let ok = went_well _ c.flush-flushed.result c.flush-flushed.new.self.is_down f.err flew (f.ok was_a was_b) in
    record {
      honest_a = subst g.D.Device.honest (ap (λ (j : View g.row.D.Denot). j.a) l.flight ∙ sym stays.a.was) was_a;
      honest_b = subst g.D.Device.honest (ap (λ (j : View g.row.D.Denot). j.b) l.flight ∙ sym stays.b.was) was_b;
      durable = all_durable c.args.coordinator.durable c.args.coordinator.staged _ _ _ _ (ok.0 ∙ ap (λ (j : View g.row.D.Denot). j.durable ++ j.staged) l.flight) stays.durable stays.staged l.all;
      rest = ok.1;
    }
