-- What a stop leaves while all nodes agree: devices that rest, as those of a store that is closed.
use Rattle.std.specs.Prelude.{◌≡◌, ◌≤◌, ◌<◌, ℕ, List, take, Contains}
use Rattle.device.specs.Device.{State}
use Rattle.records.specs.declared.record.Record.{Record}
use Rattle.records.specs.Coordinators.{coordinator_state, end_of}
use Rattle.laws.specs.Machines.{Machine}
use Rattle.laws.specs.Nodes.{NodeName, coordinator, shard}
use Rattle.accord.specs.Agreeing.{Agree, AllNodes}
use Rattle.stores.specs.Stores.{AreSound, RestsOver, stops}

-- These devices were just opened, so a stop leaves one list of records of the coordinator; and each node's devices found a list that could be left of it.
pub record AreFoundOf {D : Type 0} (state : D → State) (honest : D → Type 0) (store shards : ℕ) (n : AllNodes) (devices : NodeName → D × D) (found : List Record) : Type 0 where
  pub sound : AreSound state honest store shards devices
  pub coordinator_left : Contains n.coordinator.left found
  pub only : (rs : List Record) → stops state honest store shards devices coordinator rs → rs ≡ found
  pub each_shard : (s : ℕ) (rs : List Record) → s < shards → stops state honest store shards devices (shard s) rs → Contains (n.shard s).left rs

-- the list that the coordinator's records have, all of it kept
abbrev pub machine_of : AllNodes → List Record → Machine
machine_of n found = record { log = take (end_of (coordinator_state found)) n.coordinator.log; kept = end_of (coordinator_state found); horizon = (coordinator_state found).horizon }

-- they rest there, with all that was kept, and at no lower horizon
abbrev pub WhatIsLeftRests : {D : Type 0} → (D → State) → (D → Type 0) → Type 0
WhatIsLeftRests {D} state honest = (store shards : ℕ) (n : AllNodes) (devices : NodeName → D × D) (found : List Record) → Agree store shards n → AreFoundOf state honest store shards n devices found
    → RestsOver state honest store shards devices (machine_of n found) × (n.coordinator.kept ≤ (machine_of n found).kept) × (n.coordinator.horizon ≤ (machine_of n found).horizon)
