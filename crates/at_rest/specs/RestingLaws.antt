-- When devices that were just opened are at rest: the statements of the laws.
use Rattle.std.specs.Prelude.{◌≡◌, ◌≤◌, ◌+◌, ◌*◌, ◌++◌, ℕ, List, length, take, Some, All, slice_index_or}
use Rattle.device.specs.Device.{State, left}
use Rattle.device.specs.Disk.{IsFresh}
use Rattle.headline.specs.Found.{AreFoundOf}
use Rattle.headline.specs.Promised.{devices_at}
use Rattle.journal.specs.Records.{found}
use Rattle.laws.specs.Machines.{Machine}
use Rattle.locked.specs.Opening.{RestAt}
use Rattle.records.specs.declared.record.Record.{Record}
use Rattle.tuples.specs.declared.entry.Entry.{Entry}
use Rattle.stores.specs.Stores.{RestsOver}
use Rattle.locked.specs.AtRest.{IsAtRest, found_coordinator}

module _ {D : Type 0} (state : D → State) (honest : D → Type 0) where
  -- it was just opened: what it reads is durable, and nothing was written since
  abbrev pub IsJustOpened : D → Type 0
  IsJustOpened d = IsFresh (state d).seen (state d)

  -- Whatever machine a closed store rests at: if all its devices were just opened, they are at rest at a beginning of its list, with all that
  -- was kept, and at no lower horizon.
  abbrev pub WhatRestsIsAtRest : Type 0
  WhatRestsIsAtRest = (store shards : ℕ) (any : D) (devices : List D) (m : Machine) → length devices ≡ 2 * (shards + 1) → All IsJustOpened devices
      → RestsOver state honest store shards (devices_at any devices) m
      → (n : ℕ) × (m.kept ≤ n) × (n ≤ length m.log) × IsAtRest state honest shards (take n m.log) devices × (m.horizon ≤ (found_coordinator state devices).horizon)

  -- whatever a stop leaves of the two devices holds records
  abbrev pub AreReadable : D → D → Type 0
  AreReadable a b = (c d : List ℕ) → left (state a) c → left (state b) d → (rs : List Record) × (found c d ≡ Some rs)

  -- Whatever list devices rest at, with more after it or not: if the coordinator's can be read, those that were just opened and find what a stop leaves are at
  -- rest at that list, with more after it or not, and at no lower horizon.
  --
  -- A store that is served rests at its list between two calls of its nodes; `WhatAStopLeavesIsAtRest` says what a stop within one leaves. The list is still the
  -- whole one, after checkpoints too: a checkpoint moves the base, and the shards have what lies below it.
  abbrev pub WhatIsFoundIsAtRest : Type 0
  WhatIsFoundIsAtRest = (shards : ℕ) (any : D) (first : List Entry) (low : ℕ) (olds news : List D) → length olds ≡ 2 * (shards + 1)
      → RestAt state honest shards first low olds → AreReadable (slice_index_or olds 0 any) (slice_index_or olds 1 any) → AreFoundOf state honest olds news → All IsJustOpened news
      → (more : List Entry) × IsAtRest state honest shards (first ++ more) news × (low ≤ (found_coordinator state news).horizon)
