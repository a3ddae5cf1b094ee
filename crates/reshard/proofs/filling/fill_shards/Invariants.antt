use Rattle.reshard.specs.Merging.{merged}
use Rattle.reshard.proofs.Filled.{SoFar}
use Rattle.reshard.proofs.filling.fill_shards.Given as goal

abbrev pub invariant-loop-shard : goal.invariant-loop-shard
invariant-loop-shard g l = SoFar g.D.Device.state g.D.Device.honest l.store l.shards l.reach (merged l.rows) l.fn.begun l.shard l.begun
