-- The shard of an object, and a shard's part of a write.
use Rattle.std.specs.Prelude.{◌+◌, ◌%◌, ℕ, Bool, List, not, ◌||◌, ◌==◌, sum, length, filter, Option, Some, None, if◌then◌else◌}
use Rattle.tuples.specs.declared.object.Object.{Object}
use Rattle.tuples.specs.declared.tuple.Tuple.{Tuple}
use Rattle.tuples.specs.declared.change.Change.{Change}
use Rattle.tuples.specs.declared.change.Condition.{Condition}
use Rattle.tuples.specs.declared.entry.Entry.{Entry}
use Rattle.tuples.specs.declared.entry.WriteId.{WriteId}
use Rattle.tuples.specs.Changes.{tuple_of}
use Rattle.tuples.specs.Writes.{WriteValue}

-- the shard of an object, of so many: the sum of the bytes of namespace:id
unfoldable pub shard_of : ℕ → Object → ℕ
shard_of shards o = (sum o.namespace + 58 + sum o.id) % shards

-- the tuple's object has the shard
abbrev pub is_of : ℕ → ℕ → Tuple → Bool
is_of shards s t = shard_of shards t.object == s

-- the changes whose objects have the shard, in order
abbrev pub own_changes : ℕ → ℕ → List Change → List Change
own_changes shards s = filter (λ (c : Change). is_of shards s (tuple_of c))

-- the conditions whose objects have the shard, in order
abbrev pub own_conditions : ℕ → ℕ → List Condition → List Condition
own_conditions shards s = filter (λ (c : Condition). is_of shards s c.tuple)

-- the changes and conditions of a write whose objects have the shard, in order
unfoldable pub part : ℕ → ℕ → Entry → Entry
part shards s w = record {
  id = w.id;
  changes = own_changes shards s w.changes;
  conditions = own_conditions shards s w.conditions;
}

-- the shard takes part in the write
unfoldable pub takes_part : ℕ → ℕ → Entry → Bool
takes_part shards s w = not (length (part shards s w).changes == 0) || not (length (part shards s w).conditions == 0)

-- what a shard has in doubt of a decided write that it has not learned: exactly its part, and nothing if it has none
unfoldable pub expected : ℕ → ℕ → Entry → Option Entry
expected shards s w = if takes_part shards s w then Some (part shards s w) else None

-- the write under an id
abbrev pub with_id : WriteId → WriteValue → Entry
with_id id w = record { id = id; changes = w.changes; conditions = w.conditions }
