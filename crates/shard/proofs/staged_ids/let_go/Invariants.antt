use Rattle.std.proofs.Common.{◌≡◌, drop}
use Rattle.shard.proofs.staged_ids.let_go.Given as goal

abbrev pub invariant-loop : goal.invariant-loop
invariant-loop l = l.ids.items ≡ drop l.counter l.fn.ids.items
