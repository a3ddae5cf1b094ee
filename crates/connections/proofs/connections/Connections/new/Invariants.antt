use Rattle.std.proofs.Common.{◌≡◌, ◌+◌, vec_len, [], None}
use Rattle.std.specs.Prelude.{All}
use Rattle.connections.proofs.connections.Connections.new.Given as goal

abbrev pub invariant-loop-worker : goal.invariant-loop-worker
invariant-loop-worker g l = record {
  queue : l.acceptor.queue ≡ l.queue-inside.queue.table.shared.table_id;
  put : l.acceptor.put ≡ 0;
  made : l.acceptor.passes ≡ l.worker + 1;
  told : l.acceptor.told ≡ [];
  count : vec_len l.passes ≡ l.worker;
  passes : All (λ w. (w.queue ≡ l.queue-inside.queue.table.shared.table_id) × (w.passes ≡ 1) × (w.taken ≡ []) × (w.end ≡ None)) l.passes.items;
}
