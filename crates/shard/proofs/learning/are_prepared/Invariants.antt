use Rattle.shard.specs.Own.{AreHereTo}
use Rattle.shard.proofs.learning.are_prepared.Given as goal

abbrev pub invariant-loop-write : goal.invariant-loop-write
invariant-loop-write l = record { here : AreHereTo l.me.shards l.me.node l.write-index l.memory.in_doubt l.writes }
