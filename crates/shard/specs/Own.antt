-- What a shard tests of its part of a write, and of the writes of a batch.
use Rattle.std.specs.Prelude.{◌≡◌, ◌<◌, ℕ, Bool, true, false, nat_lt, List, slice_get, Some}
use Rattle.tuples.specs.declared.change.Want.{Want}
use Rattle.tuples.specs.declared.change.Want.TheVariants.{NotAfter, Exists, Absent}
use Rattle.tuples.specs.declared.entry.Entry.{Entry}
use Rattle.tuples.specs.Parts.{part, takes_part}
use Rattle.records.specs.Replays.{find_in_doubt}

-- the condition names a place below the horizon
abbrev pub is_below : ℕ → Want → Bool
is_below h (NotAfter place) = nat_lt place h
is_below h Exists = false
is_below h Absent = false

-- the first so many of these writes are in doubt with exactly their parts, if the shard has one
abbrev pub AreHereTo : ℕ → ℕ → ℕ → List Entry → List Entry → Type 0
AreHereTo shards s n ws writes = (j : ℕ) (w : Entry) → j < n → slice_get writes j ≡ Some w → takes_part shards s w ≡ true → find_in_doubt w.id ws ≡ Some (part shards s w)

-- no two of the first so many have one id
abbrev pub AreNewIdsTo : ℕ → List Entry → Type 0
AreNewIdsTo n writes = (i j : ℕ) (v w : Entry) → i < n → j < n → slice_get writes i ≡ Some v → slice_get writes j ≡ Some w → v.id ≡ w.id → i ≡ j
