use Rattle.std.proofs.Common.{◌≡◌, ◌≤◌}
use Rattle.connections.proofs.connections.tests.fill.Given as goal

abbrev pub invariant-loop-connection : goal.invariant-loop-connection
invariant-loop-connection g l = record {
  queue : l.acceptor.queue ≡ l.queue;
  put : l.acceptor.put ≤ l.connection;
  count : l.count ≤ l.connection;
}
