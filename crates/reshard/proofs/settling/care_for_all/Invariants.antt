use Rattle.std.proofs.Common.{◌≡◌}
use Rattle.reshard.specs.Caring.{CaresOn}
use Rattle.reshard.proofs.settling.care_for_all.Given as goal

abbrev pub invariant-loop-shard : goal.invariant-loop-shard
invariant-loop-shard g l = record {
  cares : CaresOn g.D.Device.state g.D.Device.honest g.D.Device.moment g.D.Device.left_since l.fn.world l.world;
  shards : l.world.shards ≡ l.fn.shards;
}
