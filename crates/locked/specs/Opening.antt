-- Devices over which a store may be opened: those of the coordinator, and then those of each shard, bank a before bank b.
use Rattle.std.specs.Prelude.{◌≡◌, ◌≤◌, ◌⊎◌, ◌<◌, ◌+◌, ◌*◌, ℕ, List, [], All, length, slice_index_or}
use mathlib.Core.List.{IsPrefix}
use Rattle.published.specs.Known.{Known}
use Rattle.refusal.specs.declared.refusal.Refusal.{Refusal}
use Rattle.refusal.specs.declared.refusal.Refusal.TheVariants.{NoMemory}
use Rattle.tuples.specs.declared.entry.Entry.{Entry}
use Rattle.device.specs.Device.{State}
use Rattle.records.specs.Identity.{coordinator_number}
use Rattle.calls.specs.Views.{refused}
use Rattle.ties.specs.RestingLaws.{IsUnmade}
use Rattle.ties.specs.ShardTies.{RowsAnywhere}
use Rattle.ties.specs.Ties.{Anywhere}
use Rattle.sides.specs.Reopening.{LogReopens}

-- from this shard on a stop leaves of the two devices of each its rows of the list
abbrev pub ShardsRest : {D : Type 0} → (D → State) → (D → Type 0) → ℕ → List Entry → ℕ → ℕ → List D → Type 0
ShardsRest {D} state honest shards first low from devices = (k : ℕ) (any : D) → from + k < shards
    → RowsAnywhere state honest shards (from + k) (slice_index_or devices (2 * k) any) (slice_index_or devices (2 * k + 1) any) first low

-- They rest at the list: of those of the coordinator a stop leaves it, and perhaps more, and of those of each shard its rows of it.
pub record RestAt {D : Type 0} (state : D → State) (honest : D → Type 0) (shards : ℕ) (first : List Entry) (low : ℕ) (devices : List D) : Type 0 where
  pub coordinator : (any : D) → Anywhere state honest (slice_index_or devices 0 any) (slice_index_or devices 1 any) first low []
  pub each_shard : (k : ℕ) (any : D) → k < shards → RowsAnywhere state honest shards k (slice_index_or devices (2 * k + 2) any) (slice_index_or devices (2 * k + 3) any) first low

-- A pass knows what was found if a store rested at the list: that list, perhaps with more after it, and no lower horizon.
abbrev pub HasFound : List Entry → ℕ → Known Entry → Type 0
HasFound first low known = IsPrefix first known.seen × (low ≤ known.horizon)

-- the device is honest, and nobody has written it yet
pub record IsNew {D : Type 0} (state : D → State) (honest : D → Type 0) (d : D) : Type 0 where
  pub is_honest : honest d
  pub unmade : IsUnmade (state d)

-- new devices, two for the coordinator and for each shard, rest at the empty list
abbrev pub NewDevicesRest : {D : Type 0} → (D → State) → (D → Type 0) → ℕ → Type 0
NewDevicesRest {D} state honest shards = (devices : List D) → length devices ≡ 2 * (shards + 1) → All (IsNew state honest) devices → RestAt state honest shards [] 0 devices

module _ {D : Type 0} (state : D → State) (honest : D → Type 0) (moment : D → ℕ) (left_since : D → ℕ → List ℕ → Type 0) (store shards : ℕ) (devices : List D) where
  -- by this the opening of the coordinator over the first two devices was refused
  abbrev pub RefusesCoordinator : Refusal → Type 0
  RefusesCoordinator e = (any : D) → (x : D) × (y : D)
      × LogReopens state honest moment left_since (record { store = store; shards = shards; node = coordinator_number }) (slice_index_or devices 0 any) (slice_index_or devices 1 any) (refused e x y)

  -- or memory for the store was
  abbrev pub RefusesStore : Refusal → Type 0
  RefusesStore e = (e ≡ NoMemory) ⊎ RefusesCoordinator e
