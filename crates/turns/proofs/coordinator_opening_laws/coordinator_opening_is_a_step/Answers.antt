use Rattle.turns.proofs.CoordinatorOpeningSeam.{coordinator_openings_step, failed_openings_have_cause, full_coordinators_were_opened, no_coordinator_is_damaged, refused_openings_step}
use Rattle.turns.proofs.coordinator_opening_laws.coordinator_opening_is_a_step.Goals as goal

pub returns : goal.returns
returns g c = record {
  ok = λ store shards. coordinator_openings_step g.D.Device.state g.D.Device.honest g.D.Device.moment g.D.Device.left_since g.met.D.Device.counts_now store shards;
  refused = λ store shards. refused_openings_step g.D.Device.state g.D.Device.honest g.D.Device.moment g.D.Device.left_since g.met.D.Device.counts_now store shards;
  full = λ store shards. full_coordinators_were_opened g.D.Device.state g.D.Device.honest g.D.Device.moment g.D.Device.left_since g.met.D.Device.counts_now store shards;
  failed = λ store shards. failed_openings_have_cause g.D.Device.state g.D.Device.honest g.D.Device.moment g.D.Device.left_since g.met.D.Device.counts_now store shards;
  damaged = λ store shards. no_coordinator_is_damaged g.D.Device.state g.D.Device.honest g.D.Device.moment g.D.Device.left_since g.met.D.Device.counts_now store shards;
}
