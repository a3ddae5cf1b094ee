use Rattle.std.proofs.Common.{ℕ, ◌<◌}
use Rattle.calls.specs.declared.carrying.Reach.{Reach}
use Rattle.names.specs.declared.node_name.NodeName.TheVariants.{Shard}
use Rattle.dumping.specs.Looking.{IsWithin, ReachesAt}
use Rattle.dumping.proofs.looking.look_over.Given as goal

-- the shards so far are within what the coordinator tells
abbrev pub invariant-loop-shard : goal.invariant-loop-shard
invariant-loop-shard g l = (s : ℕ) → s < l.shard → (reach : Reach) × ReachesAt g.D.Device.state g.D.Device.honest l.world.nodes (Shard s) reach × IsWithin reach l.log
