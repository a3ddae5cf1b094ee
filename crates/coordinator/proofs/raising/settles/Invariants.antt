use Rattle.std.proofs.Common.{ℕ, ◌<◌}
use Rattle.coordinator.specs.Ranges.{HasSettled}
use Rattle.coordinator.proofs.raising.settles.Given as goal

abbrev pub invariant-loop-shard : goal.invariant-loop-shard
invariant-loop-shard l = (s : ℕ) → s < l.shard → HasSettled s l.place l.settled
