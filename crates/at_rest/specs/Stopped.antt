-- What a stop leaves of a store that is served, at whatever moment of whatever calls of its nodes.
use Rattle.std.specs.Prelude.{◌≡◌, ◌⊎◌, ◌≤◌, ◌<◌, ◌+◌, ◌*◌, ◌++◌, ℕ, List, length, All, slice_index_or}
use mathlib.Core.List.{IsPrefix}
use Rattle.decisions.specs.Checkpoints.{HasOldNewOrPoint}
use Rattle.decisions.specs.Coordinators.{CoordinatorView, WasLeftOrReopened}
use Rattle.device.specs.Device.{State, left}
use Rattle.headline.specs.Found.{IsFoundIn}
use Rattle.laws.specs.Worlds.{coordinator_node, shard_node}
use Rattle.shard.specs.Checkpoints.{HasOldNewOrPoint as HasOldNewOrShardPoint}
use Rattle.shard.specs.Shards.{ShardView, WasLeftOrOpened}
use Rattle.ties.specs.ShardTies.{IsShardTiedUp, RowsAnywhere}
use Rattle.ties.specs.Ties.{Anywhere, Attempt, IsTiedUp}
use Rattle.tuples.specs.declared.entry.Entry.{Entry}
use Rattle.locked.specs.AtRest.{IsAtRest, found_coordinator}
use Rattle.at_rest.specs.RestingLaws.{AreReadable, IsJustOpened}

module _ {D : Type 0} (state : D → State) (honest : D → Type 0) (moment : D → ℕ) (left_since : D → ℕ → List ℕ → Type 0) (store shards : ℕ) where
  -- Two contents that a stop left at some moment of a call over two devices, of which its contract says what any two such have.
  pub record IsWithin (old_a old_b : D) (Has : List ℕ → List ℕ → Type 0) (x y : List ℕ) : Type 0 where
    pub new_a : D
    pub new_b : D
    pub each : (u v : List ℕ) → left_since new_a (moment old_a) u → left_since new_b (moment old_b) v → Has u v
    pub left_a : left_since new_a (moment old_a) x
    pub left_b : left_since new_b (moment old_b) y

  -- Given what ties two devices to a list: a node over them was within no call of its devices,
  pub record Stands (Tied : D → D → Type 0) (x y : List ℕ) : Type 0 where
    pub a : D
    pub b : D
    pub tied : Tied a b
    pub left_a : left (state a) x
    pub left_b : left (state b) y

  -- or within an opening over them
  pub record Opens (Tied : D → D → Type 0) (Has : D → D → List ℕ → List ℕ → Type 0) (x y : List ℕ) : Type 0 where
    pub a : D
    pub b : D
    pub tied : Tied a b
    pub reads_a : left (state a) (state a).seen
    pub reads_b : left (state b) (state b).seen
    pub within : IsWithin a b (Has a b) x y

  -- A coordinator that is up, and tied to the list, was within a flush, under its lock or on a flight, or within a checkpoint.
  pub record KeepsLog (seen : List Entry) (low : ℕ) (tried : List Attempt) (x y : List ℕ) : Type 0 where
    pub old : CoordinatorView D
    pub tied : IsTiedUp state honest old seen low tried
    pub within : IsWithin old.a old.b (HasOldNewOrPoint old) x y

  -- and so a shard
  pub record KeepsShard (s : ℕ) (seen : List Entry) (low : ℕ) (x y : List ℕ) : Type 0 where
    pub old : ShardView D
    pub tied : IsShardTiedUp state honest store shards s old seen low
    pub within : IsWithin old.a old.b (HasOldNewOrShardPoint old) x y

  -- a stop leaves the list of two devices, and nothing that can't be read, as when a coordinator over them is up
  abbrev pub AreReadOfLog : List Entry → ℕ → List Attempt → D → D → Type 0
  AreReadOfLog seen low tried a b = Anywhere state honest a b seen low tried × AreReadable state honest a b

  -- These contents were left of a coordinator that is tied to the list, at any of these moments,
  abbrev pub IsLeftOfLog : List Entry → ℕ → List Attempt → List ℕ → List ℕ → Type 0
  IsLeftOfLog seen low tried x y = Stands (AreReadOfLog seen low tried) x y ⊎ (KeepsLog seen low tried x y
      ⊎ Opens (AreReadOfLog seen low tried) (λ a b. WasLeftOrReopened (coordinator_node store shards) (state a) (state b)) x y)

  -- or of a shard.
  abbrev pub IsLeftOfShard : ℕ → List Entry → ℕ → List ℕ → List ℕ → Type 0
  IsLeftOfShard s seen low x y = Stands (λ a b. RowsAnywhere state honest shards s a b seen low) x y ⊎ (KeepsShard s seen low x y
      ⊎ Opens (λ a b. RowsAnywhere state honest shards s a b seen low) (λ a b. WasLeftOrOpened (shard_node store shards s) (state a) (state b)) x y)

  -- the device is honest, and finds this content, or it with more after a list that a closed gate ends
  pub record FindsLeft (d : D) (content : List ℕ) : Type 0 where
    pub is_honest : honest d
    pub found_in : IsFoundIn content (state d).seen

  -- the two devices find what a stop left of a coordinator that is tied to the list
  pub record IsFoundOfLog (first : List Entry) (low : ℕ) (a b : D) : Type 0 where
    pub tried : List Attempt
    pub x : List ℕ
    pub y : List ℕ
    pub was_left : IsLeftOfLog first low tried x y
    pub finds_a : FindsLeft a x
    pub finds_b : FindsLeft b y

  -- or of a shard that is tied to a beginning of the list, under a horizon that is no higher
  pub record IsFoundOfShard (s : ℕ) (first : List Entry) (low : ℕ) (a b : D) : Type 0 where
    pub seen : List Entry
    pub horizon : ℕ
    pub begins : IsPrefix seen first
    pub no_higher : horizon ≤ low
    pub x : List ℕ
    pub y : List ℕ
    pub was_left : IsLeftOfShard s seen horizon x y
    pub finds_a : FindsLeft a x
    pub finds_b : FindsLeft b y

  -- the devices find what one stop left of all nodes of a store, whichever calls these were within
  pub record AreFoundOfStopped (any : D) (first : List Entry) (low : ℕ) (devices : List D) : Type 0 where
    pub coordinator : IsFoundOfLog first low (slice_index_or devices 0 any) (slice_index_or devices 1 any)
    pub each_shard : (k : ℕ) → k < shards → IsFoundOfShard k first low (slice_index_or devices (2 * k + 2) any) (slice_index_or devices (2 * k + 3) any)

  -- Devices that were just opened, and find what a stop left of a store that is served, are at rest at its list, with more after it or not, and at no lower
  -- horizon.
  abbrev pub WhatAStopLeavesIsAtRest : Type 0
  WhatAStopLeavesIsAtRest = (any : D) (first : List Entry) (low : ℕ) (devices : List D) → length devices ≡ 2 * (shards + 1) → All (IsJustOpened state honest) devices
      → AreFoundOfStopped any first low devices
      → (more : List Entry) × IsAtRest state honest shards (first ++ more) devices × (low ≤ (found_coordinator state devices).horizon)
