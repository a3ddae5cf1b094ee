use Rattle.std.proofs.Common.{◌<◌, ◌^◌, map, take}
use Rattle.tuples.specs.Bits.{AreBitsOf}
use Rattle.tuples.specs.Parts.{shard_of}
use Rattle.tuples.proofs.participants.shards_of_conditions.Given as goal

-- the bits are those of the conditions so far
abbrev pub invariant-loop-condition : goal.invariant-loop-condition
invariant-loop-condition l = AreBitsOf (map (λ c. shard_of l.shards c.tuple.object) (take l.condition-index l.conditions)) l.bits × (l.bits < 2 ^ l.shards)
