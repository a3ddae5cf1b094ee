-- Which steps are taken of a store that is dumped, whatever comes of it.
use Rattle.std.specs.Prelude.{List, Option}
use Rattle.std.specs.List.{AllByRecursion}
use Rattle.cluster.specs.declared.event.What.{What}
use Rattle.cluster.specs.declared.step.Step.{Step}
use Rattle.cluster.specs.declared.step.Step.TheVariants.{Start, Turn, Cancel, Care as care_for, Restart}
use Rattle.names.specs.declared.care.Care.{Care}
use Rattle.names.specs.declared.care.Care.TheVariants.{Flush, Learn, Resolve, Raise, Collect, Checkpoint}
use Rattle.scripts.specs.Cares.{Taken, TakesAll}
use Rattle.tuples.specs.declared.request.Request.{Request}
use Rattle.tuples.specs.declared.request.Request.TheVariants.{Write, Read, Check, Watch}

-- a request that asks for tuples
abbrev pub IsOfReading : Request → Type 0
IsOfReading (Write write) = ⊥
IsOfReading (Read fresh sets) = Unit {0}
IsOfReading (Check fresh tuple) = ⊥
IsOfReading (Watch from limit namespaces) = ⊥

-- a care by which a shard learns what is kept
abbrev pub IsOfLearning : Care → Type 0
IsOfLearning (Flush node) = ⊥
IsOfLearning (Learn shard) = Unit {0}
IsOfLearning (Resolve shard) = ⊥
IsOfLearning (Raise place) = ⊥
IsOfLearning (Collect shard) = ⊥
IsOfLearning (Checkpoint node) = ⊥

-- the step begins a read or such a care, or lets a flow make its next call
abbrev pub IsLooking : Step → Type 0
IsLooking (Start request) = IsOfReading request
IsLooking (Turn slot) = Unit {0}
IsLooking (Cancel slot) = ⊥
IsLooking (care_for care) = IsOfLearning care
IsLooking (Restart name) = ⊥

module _ {S : Type 0} (takes : S → Step → Option What → S → Type 0) where
  -- from the first store to the second such steps were taken, one after another, and no others
  pub record LooksOn (old new : S) : Type 0 where
    pub steps : List Taken
    pub looking : AllByRecursion (λ (t : Taken). IsLooking t.step) steps
    pub took : TakesAll takes old steps new
