-- What a dump did to a store.
use Rattle.std.specs.Prelude.{◌≡◌, ℕ, List, Option, MatchOption, Result}
use Rattle.std.specs.Global.{Vec}
use Rattle.std.specs.List.Sorted.{IsStrictlySortedBy}
use Rattle.cluster.specs.declared.event.What.{What}
use Rattle.cluster.specs.declared.step.Step.{Step}
use Rattle.names.specs.declared.call_name.CallName.{CallName}
use Rattle.refusal.specs.declared.refusal.Refusal.{Refusal}
use Rattle.tuples.specs.contracts.tuple.TupleOrd.TheImpl.{ghosts}
use Rattle.tuples.specs.declared.freshness.Freshness.{Freshness}
use Rattle.tuples.specs.declared.freshness.Freshness.TheVariants.{Exact, Latest}
use Rattle.tuples.specs.declared.tuple.Tuple.{Tuple}
use Rattle.tuples.specs.declared.tupleset.Tupleset.{Tupleset}
use Rattle.tuples.specs.declared.version.Version.{Version}
use Rattle.dumping.specs.Gathering.{AllRead, AllTell, HasAll, Reads}

-- the place that is asked for, or the latest if none is
abbrev pub IsPlaceFor : Option ℕ → ℕ → ℕ → Type 0
IsPlaceFor asked latest place = MatchOption asked (place ≡ latest) (λ p. place ≡ p)

module _ {S : Type 0} (takes : S → Step → Option What → S → Type 0) (nexts : S → ℕ → Option CallName → Type 0) where
  -- some read of this freshness is answered at a place
  abbrev pub IsReadAt : Freshness → S → ℕ → S → Type 0
  IsReadAt fresh old place new = (set : Tupleset) × (rows : List (List Tuple)) × Reads takes nexts fresh set old place rows new

  -- the latest place is read, and then the one that is asked for
  pub record FindsPlace (asked : Option ℕ) (old : S) (place : ℕ) (new : S) : Type 0 where
    pub latest : ℕ
    pub mid : S
    pub first : IsReadAt Latest old latest mid
    pub place_is : IsPlaceFor asked latest place
    pub at : ℕ
    pub second : IsReadAt (Exact place) mid at new

  module _ (shows : S → ℕ → Result (Vec Version) Refusal → Type 0) where
    -- All shards tell their versions, the place is read again, and then each tuple that they have a version of is read there.
    pub record FindsAll (shards place : ℕ) (old : S) (rows : List Tuple) (new : S) : Type 0 where
      pub told : List Version
      pub gathered : S
      pub tells : AllTell takes nexts shows shards old told gathered
      pub at : ℕ
      pub still : S
      pub again : IsReadAt (Exact place) gathered at still
      pub keys : List Tuple
      pub sorted : IsStrictlySortedBy ghosts.cmp keys
      pub has : HasAll keys told
      pub reads : AllRead takes nexts place keys still rows new

    pub record Dumps (shards : ℕ) (asked : Option ℕ) (old : S) (place : ℕ) (rows : List Tuple) (new : S) : Type 0 where
      pub mid : S
      pub finds : FindsPlace asked old place mid
      pub all : FindsAll shards place mid rows new
