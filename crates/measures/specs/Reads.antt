-- What a measured read finds.
use Rattle.std.specs.Prelude.{◌≡◌, ℕ, List, length}
use Rattle.tuples.specs.declared.tuple.Tuple.{Tuple}
use Rattle.tuples.specs.declared.tupleset.Tupleset.{Tupleset}
use Rattle.tuples.specs.declared.version.Version.{Version}
use Rattle.tuples.specs.Reads.{IsSelection}
use Rattle.tuples.specs.Versions.{there_at}
use Rattle.tuples.specs.Walking.{IsCheckSelection}

-- this many tuples are there at the place and meet the tupleset
pub record Found (rows : List Version) (place : ℕ) (q : Tupleset) (n : ℕ) : Type 0 where
  pub tuples : List Tuple
  pub selected : IsSelection (there_at rows place) q tuples
  pub number : n ≡ length tuples

-- this many tuples are there at the place, of those that a check asks of the userset of this tuple for its user
pub record FoundForCheck (rows : List Version) (place : ℕ) (t : Tuple) (n : ℕ) : Type 0 where
  pub tuples : List Tuple
  pub selected : IsCheckSelection (there_at rows place) (record { object = t.object; relation = t.relation }) t.user tuples
  pub number : n ≡ length tuples
