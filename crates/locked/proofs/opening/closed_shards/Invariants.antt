-- Each shard takes two of the devices, and the others rest for those after it.
use Rattle.std.proofs.Common.{All, ◌≡◌, ◌≤◌, ◌+◌, ◌*◌}
use Rattle.std.specs.Vec.{vec_capacity, vec_len}
use mathlib.Core.List.{IsPrefix}
use Rattle.locked.proofs.Words.{ShardsRest}
use Rattle.locked.proofs.opening.closed_shards.Given as goal

abbrev pub invariant-loop-shard : goal.invariant-loop-shard
invariant-loop-shard g l = record {
  left : 2 * g.B.Room.shards ≤ vec_len l.devices + 2 * l.shard;
  rests : g.B.Room.rests → ShardsRest g.D.Device.state g.D.Device.honest g.B.Room.shards g.B.Room.first g.B.Room.low l.shard l.devices.items;
  list : g.B.Room.rests → IsPrefix g.B.Room.first l.coordinator.seen × (g.B.Room.low ≤ l.coordinator.low);
  opened : vec_len l.closed ≡ l.shard;
  room : l.ground.shards ≤ vec_capacity l.closed;
  honest : All g.D.Device.honest l.devices.items;
}
