use Rattle.std.proofs.Common.{◌≡◌, length}
use Rattle.tuples.specs.Versions.{of_shard}
use Rattle.reshard.proofs.own.next_own.Given as goal

-- none so far was the node's
abbrev pub invariant-loop-tuple : goal.invariant-loop-tuple
invariant-loop-tuple l = of_shard l.me.shards l.me.node l.walk ≡ of_shard l.fn.me.shards l.fn.me.node l.fn.walk

abbrev pub decreases-loop-tuple : goal.decreases-loop-tuple
decreases-loop-tuple l = length l.walk
