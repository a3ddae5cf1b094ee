-- By which steps of a store a dump gets its tuples.
use Rattle.std.specs.Prelude.{◌≡◌, ℕ, zero, suc, List, [], ◌∷◌, ◌++◌, Option, Some, None, MatchOption, Result, Ok, true, Contains}
use Rattle.std.specs.Global.{Vec}
use Rattle.cluster.specs.declared.event.Answer.TheVariants.{Done, Selected}
use Rattle.cluster.specs.declared.event.What.{What}
use Rattle.cluster.specs.declared.event.What.TheVariants.{Ended, Refused}
use Rattle.cluster.specs.declared.step.Step.{Step}
use Rattle.cluster.specs.declared.step.Step.TheVariants.{Care as care_for, Start}
use Rattle.names.specs.declared.call_name.CallName.{CallName}
use Rattle.names.specs.declared.care.Care.TheVariants.{Learn}
use Rattle.refusal.specs.declared.refusal.Refusal.{Refusal}
use Rattle.refusal.specs.declared.refusal.Refusal.TheVariants.{Damaged, Future}
use Rattle.answer_flow.specs.ReadViews.{rows_of}
use Rattle.holds.specs.Holds.{is_in}
use Rattle.scripts.specs.Going.{Goes}
use Rattle.scripts.specs.Scripts.{slot_of}
use Rattle.tuples.specs.declared.freshness.Freshness.{Freshness}
use Rattle.tuples.specs.declared.freshness.Freshness.TheVariants.{Exact}
use Rattle.tuples.specs.declared.request.Request.TheVariants.{Read}
use Rattle.tuples.specs.declared.tuple.Tuple.{Tuple}
use Rattle.tuples.specs.declared.tupleset.Tupleset.{Tupleset}
use Rattle.tuples.specs.declared.tupleset.Tupleset.TheVariants.{Key}
use Rattle.tuples.specs.declared.version.Version.{Version}
use Rattle.tuples.specs.Changes.{tuple_of}

-- why a flow that told this last has no answer; one that could not begin asked for what is ahead of every log
abbrev pub refusal_in : Option What → Refusal
refusal_in (Some (Refused e)) = e
refusal_in None = Future
refusal_in (Some what) = Damaged

-- a set of tuples has the tuple of each version
abbrev pub HasAll : List Tuple → List Version → Type 0
HasAll keys told = (v : Version) → Contains told v → is_in keys (tuple_of v.change) ≡ true

module _ {S : Type 0} (takes : S → Step → Option What → S → Type 0) (nexts : S → ℕ → Option CallName → Type 0) where
  -- what has begun in a slot makes its calls to its end; if nothing has begun nothing follows
  abbrev pub PlaysOn : Option What → S → Option What → S → Type 0
  PlaysOn told mid last new = MatchOption (slot_of told) ((last ≡ told) × (new ≡ mid)) (λ slot. Goes takes nexts slot None mid last new)

  -- a step is taken, and a flow that it begins makes its calls to its end: this is told last
  pub record Plays (first : Step) (old : S) (last : Option What) (new : S) : Type 0 where
    pub told : Option What
    pub mid : S
    pub begins : takes old first told mid
    pub ends : PlaysOn told mid last new

  -- a read of one tupleset is answered, at this place and with these rows
  pub record Reads (fresh : Freshness) (set : Tupleset) (old : S) (place : ℕ) (rows : List (List Tuple)) (new : S) : Type 0 where
    pub asked : Vec Tupleset
    pub told : Vec (Vec Tuple)
    pub asked_is : asked.items ≡ set ∷ []
    pub told_is : rows_of told.items ≡ rows
    pub plays : Plays (Start (Read fresh asked)) old (Some (Ended (Selected place told))) new

  -- each of these tuples is read at the place: the rows of all, one after another
  abbrev pub AllRead : ℕ → List Tuple → S → List Tuple → S → Type 0
  AllRead place [] old rows new = (rows ≡ []) × (new ≡ old)
  AllRead place (t ∷ keys) old rows new = (mid : S) × (at : ℕ) × (first rest : List Tuple) × Reads (Exact place) (Key t) old at (first ∷ []) mid × AllRead place keys mid rest new × (rows ≡ first ++ rest)

  module _ (shows : S → ℕ → Result (Vec Version) Refusal → Type 0) where
    -- a shard learns what is kept, and shows its versions
    pub record TellsOne (s : ℕ) (old : S) (told : List Version) (new : S) : Type 0 where
      pub listed : Vec Version
      pub listed_is : listed.items ≡ told
      pub learns : Plays (care_for (Learn s)) old (Some (Ended Done)) new
      pub shown : shows new s (Ok listed)

    -- so does each of the first shards: the versions of all, one after another
    abbrev pub AllTell : ℕ → S → List Version → S → Type 0
    AllTell zero old told new = (told ≡ []) × (new ≡ old)
    AllTell (suc s) old told new = (mid : S) × (before more : List Version) × AllTell s old before mid × TellsOne s mid more new × (told ≡ before ++ more)
