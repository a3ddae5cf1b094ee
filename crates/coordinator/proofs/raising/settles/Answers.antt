use Rattle.std.proofs.Common.{ℕ, refl}
use borrow.Author.Count.{below_more}
use Rattle.coordinator.specs.Ranges.{HasSettled}
use Rattle.coordinator.proofs.raising.settles.Goals as goal

pub loop-shard-preserved : goal.loop-shard-preserved
loop-shard-preserved c = below_more (λ (s : ℕ). HasSettled s c.args.place c.args.settled.now) c.loop-shard.shard c.loop-shard.invariant (c.if-not-has_settled.ensures.0 refl)
