use Rattle.std.proofs.Common.{◌<◌, ◌^◌, map, take}
use Rattle.tuples.specs.Bits.{AreBitsOf}
use Rattle.tuples.specs.Changes.{tuple_of}
use Rattle.tuples.specs.Parts.{shard_of}
use Rattle.tuples.proofs.participants.shards_of_changes.Given as goal

-- the bits are those of the changes so far
abbrev pub invariant-loop-change : goal.invariant-loop-change
invariant-loop-change l = AreBitsOf (map (λ c. shard_of l.shards (tuple_of c).object) (take l.change-index l.changes)) l.bits × (l.bits < 2 ^ l.shards)
