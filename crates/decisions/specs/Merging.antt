-- Which shards a read asks, and how their rows become one list.
use Rattle.std.specs.Prelude.{◌≡◌, ◌⊎◌, ◌↔◌, ℕ, List, Contains}
use Rattle.tuples.specs.declared.tuple.Tuple.{Tuple}
use Rattle.tuples.specs.declared.tupleset.Tupleset.{Tupleset}
use Rattle.tuples.specs.declared.tupleset.Tupleset.TheVariants.{Key, OfObject, OfUser}
use Rattle.tuples.specs.Parts.{shard_of}
use Rattle.tuples.specs.Reads.{AreAscending}

-- all tuples that meet the tupleset are this shard's
abbrev pub NeedsOnly : ℕ → Tupleset → ℕ → Type 0
NeedsOnly shards (Key t) s = s ≡ shard_of shards t.object
NeedsOnly shards (OfObject o relation) s = s ≡ shard_of shards o
NeedsOnly shards (OfUser n u relation) s = ⊥

-- the tuples of two lists, ascending
pub record IsMerged (rows more merged : List Tuple) : Type 0 where
  pub ascending : AreAscending merged
  pub has : (t : Tuple) → Contains merged t ↔ (Contains rows t ⊎ Contains more t)
