use Rattle.locked.proofs.Words.{IsLater}
use Rattle.locked.proofs.store.Store.keep.Given as goal

abbrev pub invariant-loop : goal.invariant-loop
invariant-loop g l = record {
  runs : (goal.iterator-loop g).can_next l.iterator' × (goal.iterator-loop g).is_finite l.iterator';
  later : IsLater l.initial.caller.pass l.caller.pass;
}
