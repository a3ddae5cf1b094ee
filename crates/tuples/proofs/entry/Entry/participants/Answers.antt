use Rattle.std.proofs.Common.{map, bit_or}
use Rattle.std.proofs.lemmas.Nat.{or_lt}
use Rattle.tuples.specs.declared.change.Change.{Change}
use Rattle.tuples.specs.declared.change.Condition.{Condition}
use Rattle.tuples.specs.Bits.{AreBitsOf}
use Rattle.tuples.specs.Changes.{tuple_of}
use Rattle.tuples.specs.Parts.{shard_of, takes_part}
use Rattle.tuples.proofs.BitsOf.{bits_of_both, set_by_bit, takes_part_by_bit}
use Rattle.tuples.proofs.entry.Entry.participants.Goals as goal

pub returns-clause-each : goal.returns-clause-each
returns-clause-each c s =
    let shards = c.args.shards in
    let w = c.args.self.now in
    let changes : AreBitsOf (map (λ (c : Change). shard_of shards (tuple_of c).object) w.changes) c.shards_of_changes.result = rw c.as_slice.ensures at c.shards_of_changes.ensures.bits in
    let conditions : AreBitsOf (map (λ (c : Condition). shard_of shards c.tuple.object) w.conditions) c.shards_of_conditions.result = rw c.as_slice-2.ensures at c.shards_of_conditions.ensures.bits in
    let bits = bit_or c.shards_of_changes.result c.shards_of_conditions.result in
    let both = bits_of_both _ _ c.shards_of_changes.result c.shards_of_conditions.result changes conditions in
    set_by_bit bits s (takes_part shards s w) (takes_part_by_bit shards s w bits both)

pub returns-clause-below : goal.returns-clause-below
returns-clause-below c = or_lt c.args.shards c.shards_of_changes.result c.shards_of_conditions.result c.shards_of_changes.ensures.below c.shards_of_conditions.ensures.below
