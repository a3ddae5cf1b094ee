use Rattle.std.proofs.Common.{◌≡◌, ◌+◌, take}
use Rattle.shard.specs.Shards.{placed_ids_from}
use Rattle.shard.proofs.learning.placed_ids_of.Given as goal

abbrev pub invariant-loop-i : goal.invariant-loop-i
invariant-loop-i l = record {
  placed_ids : l.placed_ids.items ≡ placed_ids_from l.me.shards l.me.node (l.learned + 1) (take l.i l.writes);
}
