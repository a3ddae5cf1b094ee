-- Two fewer devices and one more node for each shard, and each was opened over its own.
use Rattle.std.proofs.Common.{◌≡◌, ◌+◌, ◌*◌}
use Rattle.std.specs.Vec.{vec_capacity, vec_len}
use Rattle.cluster.proofs.Openings.{SoFar}
use Rattle.cluster.proofs.reopening.open_all.Given as goal

abbrev pub invariant-loop-shard : goal.invariant-loop-shard
invariant-loop-shard g l = record {
  left : vec_len l.devices + 2 * l.shard ≡ 2 * l.shards;
  opened : vec_len l.nodes ≡ l.shard + 1;
  room : vec_capacity l.nodes ≡ l.shards + 1;
  so_far : SoFar g.D.Device.state g.D.Device.honest g.D.Device.moment g.D.Device.left_since l.store l.shards l.fn.devices.items l.devices.items l.nodes.items;
}
