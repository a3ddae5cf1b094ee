-- What the rows of a shard make of a read, by whether all shards are asked.
use Rattle.std.proofs.Common.{◌⊎◌, ℕ, List}
use Rattle.tuples.specs.declared.tuple.Tuple.{Tuple}
use Rattle.tuples.specs.declared.tupleset.Tupleset.{Tupleset}
use Rattle.tuples.specs.declared.tupleset.Tupleset.TheVariants.{Key, OfObject, OfUser}
use Rattle.decisions.specs.Flows.{ReadHolds}
use Rattle.answer_flow.specs.ReadViews.{IsOfUser, ReadView}
use Rattle.answer_flow.specs.Reading.{Finishes, LacksMemory, Merges, RowsGive}

pub of_one : (shards : ℕ) (sets : List Tupleset) (place : ℕ) (h : ReadHolds) (set : Tupleset) (more : List Tuple) (after : ReadView)
    → (IsOfUser set → ⊥) → Finishes sets place h more after → RowsGive shards sets place h set more after
of_one shards sets place h (Key t) more after not gives = gives
of_one shards sets place h (OfObject o relation) more after not gives = gives
of_one shards sets place h (OfUser n u relation) more after not gives = absurd (not tt)

pub of_all : (shards : ℕ) (sets : List Tupleset) (place : ℕ) (h : ReadHolds) (set : Tupleset) (more : List Tuple) (after : ReadView)
    → IsOfUser set → LacksMemory after ⊎ Merges shards sets place h more after → RowsGive shards sets place h set more after
of_all shards sets place h (Key t) more after all gives = absurd all
of_all shards sets place h (OfObject o relation) more after all gives = absurd all
of_all shards sets place h (OfUser n u relation) more after all gives = gives
