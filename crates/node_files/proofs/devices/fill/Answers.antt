-- The first node has two devices, and each shard two more.
use Rattle.std.proofs.Common.{arith}
use Rattle.node_files.proofs.devices.fill.Goals as goal

pub loop-shard-init : goal.loop-shard-init
loop-shard-init c = record {
  count = omega (arith, c.requires, c.in_ok-open_two.ensures.count);
  found = c.in_ok-open_two.ensures.found;
}

pub loop-shard-preserved : goal.loop-shard-preserved
loop-shard-preserved c = record {
  count = omega (arith, c.in_ok-open_shard.ensures.count, c.loop-shard.invariant.count);
  found = λ all. c.in_ok-open_shard.ensures.found (c.loop-shard.invariant.found all);
}

pub returns-clause-found : goal.returns-clause-found
returns-clause-found c = c.loop-shard.invariant.found
