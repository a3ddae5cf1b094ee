use Rattle.std.proofs.Common.{ℕ, ◌<◌}
use Rattle.names.specs.declared.node_name.NodeName.TheVariants.{Shard}
use Rattle.reshard.specs.Caring.{ReachesAt}
use Rattle.reshard.proofs.settling.reach.Given as goal

-- the shards so far reach as far
abbrev pub invariant-loop-shard : goal.invariant-loop-shard
invariant-loop-shard g l = (s : ℕ) → s < l.shard → ReachesAt g.D.Device.state g.D.Device.honest l.world.nodes (Shard s) l.reach
