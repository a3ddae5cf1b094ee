use Rattle.std.proofs.Common.{◌≡◌}
use Rattle.flights.proofs.coordinator_cell.CoordinatorCell.checkpoint.Given as goal

abbrev pub invariant-loop : goal.invariant-loop
invariant-loop g l = record {
  runs : (goal.iterator-loop g).can_next l.iterator' × (goal.iterator-loop g).is_finite l.iterator';
  same : l.told ≡ l.initial.told;
  pass : l.pass ≡ l.initial.pass;
}
