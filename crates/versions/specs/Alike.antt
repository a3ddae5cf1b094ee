-- Lists of versions that read the same, whatever the order of versions of different tuples.
use Rattle.std.specs.Prelude.{◌≡◌, ℕ, List, filter}
use Rattle.std.specs.List.Sorted.{IsPermutation}
use Rattle.tuples.specs.declared.tuple.Tuple.{Tuple}
use Rattle.tuples.specs.declared.version.Version.{Version}
use Rattle.tuples.specs.Changes.{tuple_of}
use Rattle.tuples.specs.Order.{tuple_eq}
use Rattle.tuples.specs.Versions.{collected, last_version, there_at}

-- the versions of one tuple, in the order in which they were applied
abbrev pub of_tuple : Tuple → List Version → List Version
of_tuple t = filter (λ (v : Version). tuple_eq t (tuple_of v.change))

-- the same versions of each tuple, in the same order
pub record AreAlike (a b : List Version) : Type 0 where
  pub each : (t : Tuple) → of_tuple t a ≡ of_tuple t b

-- what is read of the one is read of the other, also under a later horizon
pub record ReadAlike (a b : List Version) : Type 0 where
  pub there : (place : ℕ) (t : Tuple) → there_at a place t ≡ there_at b place t
  pub last : (t : Tuple) → last_version a t ≡ last_version b t
  pub collected : (horizon : ℕ) → AreAlike (collected horizon a) (collected horizon b)
  pub listed : IsPermutation a b

-- lists with the same versions of each tuple read the same
abbrev pub AlikeReadsAlike : Type 0
AlikeReadsAlike = (a b : List Version) → AreAlike a b → ReadAlike a b
