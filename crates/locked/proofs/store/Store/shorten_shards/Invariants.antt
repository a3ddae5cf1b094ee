use Rattle.locked.proofs.Words.{IsLater}
use Rattle.locked.proofs.store.Store.shorten_shards.Given as goal

abbrev pub invariant-loop-shard : goal.invariant-loop-shard
invariant-loop-shard g l = record { later : IsLater l.fn.caller.pass l.caller.pass }
