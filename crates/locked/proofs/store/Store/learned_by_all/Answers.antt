use Rattle.std.proofs.Common.{arith}
use Rattle.locked.proofs.Passes.{later_on}
use Rattle.locked.proofs.store.Store.learned_by_all.Goals as goal

pub loop-shard-preserved : goal.loop-shard-preserved
loop-shard-preserved g c = record {
  later = later_on c.args.caller.now.pass c.loop-shard.caller.pass c.learned.new.caller.pass c.loop-shard.invariant.later c.learned.ensures.caller;
  count = omega (arith, c.loop-shard.invariant.count, c.reserve.ensures.len, c.push_reserved.ensures.len);
}
