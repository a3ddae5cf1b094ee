-- That what a world does keeps the promises of runs: the statements of the laws.
use Rattle.std.specs.Prelude.{◌≡◌, ◌*◌, ◌+◌, ◌≤◌, ℕ, List, map, length, Option, All, get_or}
use Rattle.records.specs.Identity.{max_shards}
use Rattle.device.specs.Device.{State}
use Rattle.cluster.specs.Openings.{IsOpenedOver}
use Rattle.cluster.specs.Runs.{TookAll}
use Rattle.cluster.specs.Steps.{Takes}
use Rattle.cluster.specs.Worlds.{WorldView}
use Rattle.cluster.specs.declared.event.Event.{Event}
use Rattle.cluster.specs.declared.event.What.{What}
use Rattle.cluster.specs.declared.step.Step.{Step}
use Rattle.laws.specs.Nodes.{NodeName, coordinator, shard}
use Rattle.stores.specs.Moments.{Moment}
use Rattle.stores.specs.Stores.{StandsOver, Store}
use Rattle.turns.specs.Promises.{RunsAll, RunsOne, events_of}
use Rattle.turns.specs.Reopens.{Reopens}
use Rattle.headline.specs.Shown.{Shows}
use Rattle.headline.specs.Told.{IsWholeStep, all_told, event_of, step_of}

-- the two devices of each node: those of the coordinator, and then those of each shard, by rising number; for a shard that is not there, any two
abbrev pub devices_at : {D : Type 0} → D → List D → NodeName → D × D
devices_at any devices coordinator = (get_or devices 0 any, get_or devices 1 any)
devices_at any devices (shard s) = (get_or devices (2 * (s + 1)) any, get_or devices (2 * (s + 1) + 1) any)

-- Given what a device holds and whether it is honest, how often a stop may have come at it, and what a stop since then may have left
module _ {D : Type 0} (state : D → State) (honest : D → Type 0) (moment : D → ℕ) (left_since : D → ℕ → List ℕ → Type 0) where
  -- A store that keeps the promise of a step, whatever its number; and if the store before it stands, it shows the world after the step.
  pub record Keeps (old : WorldView D) (s : Store D) (step : Step) (told : Option What) (new : WorldView D) : Type 0 where
    pub later : Store D
    pub shows : (now : Moment) → StandsOver state honest old.store old.shards s now → Shows new later
    pub store_is : new.store ≡ old.store
    pub shards_is : new.shards ≡ old.shards
    pub runs : (number : ℕ) → RunsOne state honest moment left_since old.store old.shards s number (step_of step) (events_of number (all_told told)) later

  -- a step of this kind keeps it, from whatever store that shows the world
  abbrev pub StepKeeps : Step → Type 0
  StepKeeps step = (old new : WorldView D) (s : Store D) (told : Option What) → Shows old s → IsWholeStep step → Takes state honest moment left_since old step told new → Keeps old s step told new

  -- every step does
  abbrev pub StepsKeep : Type 0
  StepsKeep = (step : Step) → StepKeeps step

  -- a store that shows the world after a list of steps, and a chain of the promises of all of them
  pub record KeepsAll (old : WorldView D) (s : Store D) (number : ℕ) (steps : List Step) (events : List Event) (new : WorldView D) : Type 0 where
    pub later : Store D
    pub shows : Shows new later
    pub runs : RunsAll state honest moment left_since old.store old.shards s number (map step_of steps) (map event_of events) later

  -- so does a list of steps, from a store that stands
  abbrev pub RunsKeep : Type 0
  RunsKeep = (old new : WorldView D) (s : Store D) (number : ℕ) (steps : List Step) (events : List Event) → Shows old s → All IsWholeStep steps
      → TookAll state honest moment left_since old number steps events new → (now : Moment) → StandsOver state honest old.store old.shards s now → KeepsAll old s number steps events new

  -- a store that shows a world that was opened, and keeps the promise of an opening
  pub record KeepsOpened (any : D) (devices : List D) (store shards : ℕ) (new : WorldView D) : Type 0 where
    pub later : Store D
    pub shows : Shows new later
    pub reopens : Reopens state honest moment left_since store shards (devices_at any devices) later

  -- an opening keeps it
  abbrev pub OpeningsKeep : Type 0
  OpeningsKeep = (any : D) (devices : List D) (store shards : ℕ) (new : WorldView D) → 1 ≤ shards → shards ≤ max_shards → length devices ≡ 2 * (shards + 1)
      → IsOpenedOver state honest moment left_since store shards devices new → KeepsOpened any devices store shards new
