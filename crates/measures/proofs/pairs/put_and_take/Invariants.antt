use Rattle.std.proofs.Common.{◌≡◌, ◌≤◌}
use Rattle.measures.proofs.pairs.put_and_take.Given as goal

abbrev pub invariant-loop-connection : goal.invariant-loop-connection
invariant-loop-connection g l = record {
  queue : l.acceptor.queue ≡ l.queue;
  put : l.acceptor.put ≤ l.connection;
  worker : l.worker.queue ≡ l.queue;
}
