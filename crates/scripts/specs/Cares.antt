-- Cares of the nodes of a store, step by step, and what becomes of it then.
use Rattle.std.specs.Prelude.{◌≡◌, ℕ, List, [], ◌∷◌, Option, Result, OnErr}
use Rattle.std.specs.List.{AllByRecursion}
use Rattle.cluster.specs.declared.event.What.{What}
use Rattle.cluster.specs.declared.step.Step.{Step}
use Rattle.refusal.specs.declared.refusal.Refusal.{Refusal}
use Rattle.reshard.specs.Caring.{IsCaring}

-- A step, and what it told.
pub record Taken : Type 0 where
  pub step : Step
  pub told : Option What

module _ {S : Type 0} (takes : S → Step → Option What → S → Type 0) where
  -- these steps were taken, one after another
  abbrev pub TakesAll : S → List Taken → S → Type 0
  TakesAll old [] new = new ≡ old
  TakesAll old (t ∷ rest) new = (mid : S) × takes old t.step t.told mid × TakesAll mid rest new

  -- such steps were taken, each of which begins a care or goes on with one
  pub record Cares (old new : S) : Type 0 where
    pub steps : List Taken
    pub caring : AllByRecursion (λ (t : Taken). IsCaring t.step) steps
    pub took : TakesAll old steps new

  -- Given how a store that was cared for is carried over, or refuses
  module _ (reshards : S → ℕ → Result (Unit {0}) Refusal → S → S → Type 0) where
    -- A store is cared for, and is then carried over to one of this many shards; or it is told why it is not, and it stays as the cares have left it.
    pub record Moves (shards : ℕ) (old : S) (result : Result (Unit {0}) Refusal) (new : S) : Type 0 where
      pub cared : S
      pub cares : Cares old cared
      pub moves : reshards old shards result cared new
      pub stays : OnErr result (new ≡ cared)
