use Rattle.std.proofs.Common.{◌≡◌, ◌+◌, vec_len}
use Rattle.locked.proofs.Words.{IsLater}
use Rattle.locked.proofs.store.Store.learned_by_all.Given as goal

abbrev pub invariant-loop-shard : goal.invariant-loop-shard
invariant-loop-shard g l = record {
  later : IsLater l.fn.caller.pass l.caller.pass;
  count : vec_len l.places ≡ vec_len l.fn.places + l.shard;
}
