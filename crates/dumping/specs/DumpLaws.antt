-- A dump tells a snapshot: the statement of the law.
use Rattle.std.specs.Prelude.{◌≡◌, ◌≤◌, ◌+◌, ◌*◌, ℕ, List, length, Option, All}
use Rattle.cluster.specs.Openings.{IsOpenedOver}
use Rattle.cluster.specs.Steps.{Takes}
use Rattle.cluster.specs.Worlds.{WorldView}
use Rattle.device.specs.Device.{State}
use Rattle.headline.specs.Promised.{devices_at}
use Rattle.laws.specs.Machines.{Machine}
use Rattle.records.specs.Identity.{max_shards}
use Rattle.scripts.specs.Stepping.{IsNext, ShowsRows}
use Rattle.tuples.specs.declared.entry.WriteId.{WriteId}
use Rattle.tuples.specs.declared.tuple.Tuple.{Tuple}
use Rattle.stores.specs.Stores.{IsToldOver, RestsOver}
use Rattle.dumping.specs.Dumped.{IsSnapshotOver}
use Rattle.dumping.specs.Dumps.{Dumps}

module _ {D : Type 0} (state : D → State) (honest : D → Type 0) (moment : D → ℕ) (left_since : D → ℕ → List ℕ → Type 0) where
  -- Whatever machine the devices rest at: a dump of a store that is opened over them tells a snapshot of its list.
  abbrev pub DumpsAreSnapshots : Type 0
  DumpsAreSnapshots = (store shards : ℕ) (any : D) (devices : List D) (asked : Option ℕ) (opened : WorldView D) (place : ℕ) (rows : List Tuple) (new : WorldView D) (m : Machine) (ids : List WriteId)
      → 1 ≤ shards → shards ≤ max_shards → length devices ≡ 2 * (shards + 1)
      → RestsOver state honest store shards (devices_at any devices) m → All (IsToldOver state honest store shards (devices_at any devices) m) ids
      → IsOpenedOver state honest moment left_since store shards devices opened
      → Dumps (Takes state honest moment left_since) IsNext (ShowsRows state honest) shards asked opened place rows new
      → IsSnapshotOver state honest moment left_since store shards (devices_at any devices) m ids asked place rows new
