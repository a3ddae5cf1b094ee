use Rattle.shard.specs.Own.{AreNewIdsTo}
use Rattle.shard.proofs.learning.are_new_by_pairs.Given as goal

abbrev pub invariant-loop-i : goal.invariant-loop-i
invariant-loop-i l = record { new : AreNewIdsTo l.i l.writes }
