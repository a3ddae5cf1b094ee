-- The headline: a store that is opened over its devices, takes a list of steps, and is closed.
use Rattle.std.specs.Prelude.{◌≡◌, ◌≤◌, ◌+◌, ◌*◌, ℕ, List, length, map, All}
use Rattle.tuples.specs.declared.entry.WriteId.{WriteId}
use Rattle.records.specs.Identity.{max_shards}
use Rattle.device.specs.Device.{State}
use Rattle.cluster.specs.Openings.{IsOpenedOver}
use Rattle.cluster.specs.Runs.{TookAll}
use Rattle.cluster.specs.Worlds.{WorldView}
use Rattle.cluster.specs.declared.event.Event.{Event}
use Rattle.cluster.specs.declared.step.Step.{Step}
use Rattle.laws.specs.Machines.{Machine}
use Rattle.laws.specs.Nodes.{NodeName}
use Rattle.stores.specs.Moments.{Moment}
use Rattle.stores.specs.Stores.{IsToldOver, NamesHorizon, RestsOver, StandsOver, Store}
use Rattle.turns.specs.Promises.{RunsAll, StopsBetween}
use Rattle.turns.specs.Reopens.{Reopened}
use Rattle.turns.specs.Runs.{IsRun}
use Rattle.headline.specs.Promised.{devices_at}
use Rattle.headline.specs.Shown.{Shows}
use Rattle.headline.specs.Told.{IsWholeStep, event_of, step_of}

-- Given what a device holds and whether it is honest, how often a stop may have come at it, what a stop since then may have left, and a store's id
-- and number of shards
module _ {D : Type 0} (state : D → State) (honest : D → Type 0) (moment : D → ℕ) (left_since : D → ℕ → List ℕ → Type 0) (store shards : ℕ) where
  -- A store was opened over devices that rested at a machine, and took these steps. The opening kept its promise, and at every moment of it a stop left what
  -- means the log. The steps are a run, from the moment after the opening to one for which a store stands that shows the world; and each of them kept its
  -- promise, with every moment inside. Closed there, the devices rest again at the machine after the run, and what was told stays so.
  pub record Lives (old : NodeName → D × D) (m : Machine) (told : List WriteId) (steps : List Step) (events : List Event) (new : WorldView D) : Type 0 where
    pub first : Store D
    pub opened : Reopened state honest moment left_since store shards old m told first
    pub inside : StopsBetween state honest moment left_since store shards old first.devices m opened.after.machine
    pub last : Store D
    pub shows : Shows new last
    pub chain : RunsAll state honest moment left_since store shards first 0 (map step_of steps) (map event_of events) last
    pub after : Moment
    pub run : IsRun shards (NamesHorizon state honest store shards first opened.after) 0 opened.after (map step_of steps) (map event_of events) after
    pub stands : StandsOver state honest store shards last after
    pub rests : RestsOver state honest store shards last.devices after.machine
    pub told_stays : All (IsToldOver state honest store shards last.devices after.machine) after.told

  -- Whatever machine the devices rest at, and whoever was told what: a store that `reopen` opens over them, and that then takes a list of steps by `run`, lives.
  abbrev pub Headline : Type 0
  Headline = (any : D) (devices : List D) (opened new : WorldView D) (steps : List Step) (events : List Event) (m : Machine) (told : List WriteId)
      → 1 ≤ shards → shards ≤ max_shards → length devices ≡ 2 * (shards + 1)
      → RestsOver state honest store shards (devices_at any devices) m → All (IsToldOver state honest store shards (devices_at any devices) m) told
      → IsOpenedOver state honest moment left_since store shards devices opened → All IsWholeStep steps → TookAll state honest moment left_since opened 0 steps events new
      → Lives (devices_at any devices) m told steps events new
