use Rattle.std.proofs.Common.{ℕ, ◌≤◌}
use Rattle.calls.specs.declared.carrying.Reach.{Reach}
use Rattle.cluster.specs.Openings.{name_at}
use Rattle.reshard.specs.Caring.{ReachesAt}
use Rattle.reshard.proofs.settling.are_up.Given as goal

-- the coordinator and the shards so far are up
abbrev pub invariant-loop-shard : goal.invariant-loop-shard
invariant-loop-shard g l = (i : ℕ) → i ≤ l.shard → (reach : Reach) × ReachesAt g.D.Device.state g.D.Device.honest l.world.nodes (name_at i) reach
