-- What opening a node again makes of it, under its lock.
use Rattle.std.specs.Prelude.{◌≡◌, ◌⊎◌, ◌↔◌, ℕ, List, Option, Some, None}
use Rattle.refusal.specs.declared.refusal.Refusal.{Refusal}
use Rattle.refusal.specs.declared.refusal.Refusal.TheVariants.{Down}
use Rattle.device.specs.Device.{Failed, Keeps, Revived, State}
use Rattle.records.specs.Replays.{Identity}
use Rattle.calls.specs.Opening.{CoordinatorOpens, ShardOpens, refusal_of}
use Rattle.calls.specs.Views.{NodeView, devices_of, refused}

module _ {D : Type 0} (state : D → State) (honest : D → Type 0) where
  -- a device was revived: what a stop may have left of it was found
  pub record IsFound (old new : D) : Type 0 where
    pub still_honest : honest old ↔ honest new
    pub found : honest old → Revived (state old) (state new)

  -- it failed once more, and stores what it stored
  pub record FailsAgain (old new : D) : Type 0 where
    pub still_honest : honest old ↔ honest new
    pub keeps : honest old → Keeps (state old) (state new)
    pub failed : Failed (state old) (state new)

  -- A node was opened over two devices that were revived; or one of them failed once more, and it is not opened.
  pub record Reopens (opens_over : D → D → NodeView D → Type 0) (old_a old_b : D) (is : NodeView D) : Type 0 where
    pub a : D
    pub b : D
    pub revived_a : IsFound old_a a ⊎ FailsAgain old_a a
    pub revived_b : IsFound old_b b ⊎ FailsAgain old_b b
    pub opens : (IsFound old_a a × IsFound old_b b × opens_over a b is) ⊎ ((is ≡ refused Down a b) × (FailsAgain old_a a ⊎ FailsAgain old_b b))

module _ {D : Type 0} (state : D → State) (honest : D → Type 0) (moment : D → ℕ) (left_since : D → ℕ → List ℕ → Type 0) where
  -- a shard was opened, or not
  abbrev pub ShardReopens : Identity → D → D → NodeView D → Type 0
  ShardReopens me = Reopens state honest (λ a b. ShardOpens state honest moment left_since a b me)

  -- the node is there, and was opened over these devices
  abbrev pub OpenedIn : Identity → D → D → Option (NodeView D) → Type 0
  OpenedIn me a b (Some is) = ShardReopens me a b is
  OpenedIn me a b None = ⊥

  -- the node is there, was opened again over its own devices, and the refusal of its opening is told
  abbrev pub RestartedIn : Identity → Option (NodeView D) → Option Refusal → Option (NodeView D) → Type 0
  RestartedIn me (Some was) told (Some is) = ShardReopens me (devices_of was).0 (devices_of was).1 is × (told ≡ refusal_of is)
  RestartedIn me was told is = ⊥

  -- and so for a coordinator
  abbrev pub LogReopens : Identity → D → D → NodeView D → Type 0
  LogReopens me = Reopens state honest (λ a b. CoordinatorOpens state honest moment left_since a b me)

  abbrev pub LogOpenedIn : Identity → D → D → Option (NodeView D) → Type 0
  LogOpenedIn me a b (Some is) = LogReopens me a b is
  LogOpenedIn me a b None = ⊥

  abbrev pub LogRestartedIn : Identity → Option (NodeView D) → Option Refusal → Option (NodeView D) → Type 0
  LogRestartedIn me (Some was) told (Some is) = LogReopens me (devices_of was).0 (devices_of was).1 is × (told ≡ refusal_of is)
  LogRestartedIn me was told is = ⊥
