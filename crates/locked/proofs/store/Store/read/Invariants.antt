use Rattle.std.proofs.Common.{◌≡◌}
use Rattle.locked.proofs.Words.{IsLater}
use Rattle.locked.proofs.store.Store.read.Given as goal

abbrev pub invariant-loop : goal.invariant-loop
invariant-loop g l = record {
  runs : (goal.iterator-loop g).can_next l.iterator' × (goal.iterator-loop g).is_finite l.iterator';
  later : IsLater l.initial.caller.pass l.caller.pass;
  sets : l.sets.items ≡ l.initial.sets.items;
}
