use Rattle.std.proofs.Common.{◌≡◌, ◌≤◌}
use Rattle.measures.proofs.pairs.put_all.Given as goal

abbrev pub invariant-loop : goal.invariant-loop
invariant-loop g l = record {
  runs : (goal.iterator-loop g).can_next l.iterator' × (goal.iterator-loop g).is_finite l.iterator';
  queue : l.acceptor.queue ≡ l.queue;
  put : l.acceptor.put ≤ l.count;
}
