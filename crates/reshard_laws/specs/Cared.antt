-- What cares of a store in which no flow runs leave of its list: the statement of the law.
use Rattle.std.specs.Prelude.{◌≡◌, ◌≤◌, ◌⊎◌, ℕ, List, [], ◌∷◌, length, Contains}
use Rattle.tuples.specs.declared.entry.WriteId.{WriteId}
use Rattle.device.specs.Device.{State}
use Rattle.cluster.specs.Worlds.{WorldView, flow_count}
use Rattle.headline.specs.PastWrites.{IsPast}
use Rattle.headline.specs.Shown.{Shows}
use Rattle.laws.specs.Machines.{Machine}
use Rattle.reshard.specs.Caring.{Cares, IsCaredFor}
use Rattle.stores.specs.Moments.{Moment}
use Rattle.stores.specs.Stores.{NamesHorizon, StandsOver, Store}
use Rattle.turns.specs.Promises.{Ran}
use Rattle.turns.specs.Runs.{Event, Step}

-- the second machine has the same list, and keeps no less of it; its horizon is no lower
pub record HasSameList (old new : Machine) : Type 0 where
  pub log : new.log ≡ old.log
  pub kept : old.kept ≤ new.kept
  pub horizon : old.horizon ≤ new.horizon

module _ {D : Type 0} (state : D → State) (honest : D → Type 0) (moment : D → ℕ) (left_since : D → ℕ → List ℕ → Type 0) where
  module _ (store shards : ℕ) where
    -- These steps, listed last first, lead from a moment for which a store stands to another, and each keeps the promise of a step: so at every moment inside
    -- it a stop leaves what means the list. And each leaves the list as it is.
    abbrev pub RanAll : Store D → Moment → List Step → Store D → Moment → Type 0
    RanAll old now [] new after = (new ≡ old) × (after ≡ now)
    RanAll old now (step ∷ before) new after = (mid : Store D) × (next : Moment) × (events : List Event) × RanAll old now before mid next
        × (ran : Ran state honest moment left_since store shards mid next 0 step events new) × HasSameList next.machine ran.after.machine × (after ≡ ran.after)

    -- A store that shows the world after such steps, and stands for a moment with the same list. Its horizon is the one from before, or one to which a record
    -- or a flow from before was to raise it. What was told stays so, and a write that came to nothing still has.
    pub record KeepsList (s : Store D) (now : Moment) (new : WorldView D) : Type 0 where
      pub later : Store D
      pub shows : Shows new later
      pub store_is : new.store ≡ store
      pub shards_is : new.shards ≡ shards
      pub steps : List Step
      pub after : Moment
      pub ran : RanAll s now steps later after
      pub stands : StandsOver state honest store shards later after
      pub same : HasSameList now.machine after.machine
      pub horizon : (after.machine.horizon ≡ now.machine.horizon) ⊎ (Contains now.named after.machine.horizon ⊎ NamesHorizon state honest store shards s now after.machine.horizon)
      pub told : (id : WriteId) → Contains now.told id → Contains after.told id
      pub past : (id : WriteId) → IsPast state honest moment left_since store shards s now id → IsPast state honest moment left_since store shards later after id

  -- Whatever moment a store stands for in which no flow runs: cares leave its list as it is.
  abbrev pub CaresKeepTheList : Type 0
  CaresKeepTheList = (old new : WorldView D) (s : Store D) (now : Moment) → Shows old s → flow_count old.flows ≡ 0 → StandsOver state honest old.store old.shards s now
      → Cares state honest moment left_since old new → KeepsList old.store old.shards s now new

  -- And if the first of them was a flush of the coordinator that told its end, all of the list is kept after them.
  abbrev pub FlushedListsAreKept : Type 0
  FlushedListsAreKept = (old new : WorldView D) (s : Store D) (now : Moment) → Shows old s → flow_count old.flows ≡ 0 → StandsOver state honest old.store old.shards s now
      → IsCaredFor state honest moment left_since old new → (k : KeepsList old.store old.shards s now new) × (k.after.machine.kept ≡ length k.after.machine.log)
