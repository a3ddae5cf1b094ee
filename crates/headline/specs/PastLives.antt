-- A write that came to nothing in a life of a store, and what is left of that life. `ManyLives` tells of the lives after it.
use Rattle.std.specs.Prelude.{◌≢◌, ℕ, List, [], Option}
use Rattle.tuples.specs.declared.entry.WriteId.{WriteId}
use Rattle.device.specs.Device.{State}
use Rattle.device.specs.declared.tear.Tear.{Tear}
use Rattle.cluster.specs.Worlds.{WorldView}
use Rattle.cluster.specs.declared.event.What.{What}
use Rattle.laws.specs.Machines.{Machine}
use Rattle.stores.specs.Moments.{Moment}
use Rattle.stores.specs.Stores.{RestsOver, StandsOver, Store}
use Rattle.headline.specs.Acts.{Act}
use Rattle.headline.specs.ManyLives.{End, EndsOver, stops_opening}
use Rattle.headline.specs.PastWrites.{IsPast, IsPastOver}
use Rattle.headline.specs.Promised.{devices_at}
use Rattle.headline.specs.Shown.{Shows}

module _ {D : Type 0} (set : D → ℕ → Tear → Type 0) (state : D → State) (honest : D → Type 0) (moment : D → ℕ) (left_since : D → ℕ → List ℕ → Type 0) where
  -- From a store that shows the world within its life, if a write is past: whatever acts are done before the store is closed, or stopped within one more
  -- step, the devices that are left rest at a machine whose log does not list it, and its id was given out. From there on the lives that follow are told.
  abbrev pub PastWritesOutlive : Type 0
  PastWritesOutlive = (any : D) (w : WorldView D) (s : Store D) (now : Moment) (acts : List Act) (told : List (Option What)) (end : End) (new : List D) (id : WriteId)
      → Shows w s → StandsOver state honest w.store w.shards s now → IsPast state honest moment left_since w.store w.shards s now id → end ≢ stops_opening
      → EndsOver set state honest moment left_since w.store w.shards any [] w acts told end new
      → (after : Machine) × RestsOver state honest w.store w.shards (devices_at any new) after × IsPastOver state honest moment left_since w.store w.shards (devices_at any new) after id
