-- What an opening makes of two devices, in the words of the nodes' own contracts.
use Rattle.std.specs.Prelude.{◌≡◌, ◌⊎◌, ◌↔◌, ℕ, false, true, List, [], Option, Some, None, ◌∷◌}
use Rattle.refusal.specs.Refusals.{IsOneOf}
use Rattle.refusal.specs.declared.refusal.Refusal.{Refusal}
use Rattle.refusal.specs.declared.refusal.Refusal.TheVariants.{Damaged, Down, Full, NoMemory}
use Rattle.records.specs.declared.record.Record.{Record}
use Rattle.records.specs.Coordinators.{IsCoordinatorImage, coordinator_state}
use Rattle.records.specs.Replays.{Identity, IsShardImage, greatest_number, shard_state}
use Rattle.device.specs.Device.{HasFailed, State}
use Rattle.journal.specs.Records.{LeavesBoth, found}
use Rattle.decisions.specs.Coordinators.{CoordinatorView, IsOpenedCoordinator, WasLeftOrReopened}
use Rattle.coordinator.specs.Keeping.{HasNoRoomToOpen}
use Rattle.shard.specs.Shards.{IsOpenedShard, LacksRoomToOpen, ShardView, WasLeftOrOpened}
use Rattle.calls.specs.Views.{NodeView, coordinator, shard, refused}

-- the refusal that answers every call, if the opening was refused
abbrev pub refusal_of : {D : Type 0} → NodeView D → Option Refusal
refusal_of (coordinator v) = None
refusal_of (shard v) = None
refusal_of (refused e a b) = Some e

-- one of two devices has failed, and was not revived since
abbrev pub HasStopped : {D : Type 0} → (D → State) → D → D → Type 0
HasStopped state a b = ((state a).stopped ≡ true) ⊎ ((state b).stopped ≡ true)

-- a refusal that an opening may have
abbrev pub IsOpeningRefusal : Refusal → Type 0
IsOpeningRefusal e = IsOneOf e (Down ∷ NoMemory ∷ Full ∷ Damaged ∷ [])

module _ {D : Type 0} (state : D → State) (honest : D → Type 0) (moment : D → ℕ) (left_since : D → ℕ → List ℕ → Type 0) (a b : D) (me : Identity) where
  -- the devices are as honest as before
  abbrev pub KeepHonest : D → D → Type 0
  KeepHonest x y = (honest a ↔ honest x) × (honest b ↔ honest y)

  -- the coordinator came up
  pub record CoordinatorComesUp (v : CoordinatorView D) : Type 0 where
    pub still_honest : KeepHonest v.a v.b
    pub ok : honest a → honest b → IsOpenedCoordinator state honest a b me v
    pub fresh : (v.staged ≡ []) × (v.is_down ≡ false) × (v.me ≡ me) × (v.open_ids ≡ []) × (v.given ≡ 0)
    pub any_moment : honest a → honest b → LeavesBoth moment left_since a b v.a v.b (WasLeftOrReopened me (state a) (state b))

  -- its opening was refused
  pub record CoordinatorStaysOut (e : Refusal) (x y : D) : Type 0 where
    pub still_honest : KeepHonest x y
    pub damaged : honest a → honest b → e ≡ Damaged → (rs : List Record) → found (state a).seen (state b).seen ≡ Some rs → IsCoordinatorImage me rs → ⊥
    pub full : honest a → honest b → e ≡ Full → (rs : List Record) × (found (state a).seen (state b).seen ≡ Some rs) × IsCoordinatorImage me rs × ((coordinator_state rs).epoch ≡ greatest_number)
    pub down : e ≡ Down → HasFailed (state a) (state x) ⊎ (HasFailed (state b) (state y) ⊎ HasNoRoomToOpen state honest a b me)
    pub err : IsOpeningRefusal e
    pub any_moment : honest a → honest b → LeavesBoth moment left_since a b x y (WasLeftOrReopened me (state a) (state b))

  -- the shard came up
  pub record ShardComesUp (v : ShardView D) : Type 0 where
    pub still_honest : KeepHonest v.a v.b
    pub ok : honest a → honest b → IsOpenedShard state honest a b me v
    pub fresh : (v.staged ≡ []) × (v.is_down ≡ false) × (v.me ≡ me)
    pub any_moment : honest a → honest b → LeavesBoth moment left_since a b v.a v.b (WasLeftOrOpened me (state a) (state b))

  -- its opening was refused
  pub record ShardStaysOut (e : Refusal) (x y : D) : Type 0 where
    pub still_honest : KeepHonest x y
    pub damaged : honest a → honest b → e ≡ Damaged → (rs : List Record) → found (state a).seen (state b).seen ≡ Some rs → IsShardImage me rs → ⊥
    pub full : honest a → honest b → e ≡ Full → (rs : List Record) × (found (state a).seen (state b).seen ≡ Some rs) × IsShardImage me rs × ((shard_state rs).epoch ≡ greatest_number)
    pub down : e ≡ Down → HasFailed (state a) (state x) ⊎ (HasFailed (state b) (state y) ⊎ LacksRoomToOpen state honest a b me)
    pub err : IsOpeningRefusal e
    pub any_moment : honest a → honest b → LeavesBoth moment left_since a b x y (WasLeftOrOpened me (state a) (state b))

  -- what an opening of the coordinator gives
  abbrev pub CoordinatorOpens : NodeView D → Type 0
  CoordinatorOpens (coordinator v) = CoordinatorComesUp v
  CoordinatorOpens (shard v) = ⊥
  CoordinatorOpens (refused e x y) = CoordinatorStaysOut e x y

  -- what an opening of a shard gives
  abbrev pub ShardOpens : NodeView D → Type 0
  ShardOpens (coordinator v) = ⊥
  ShardOpens (shard v) = ShardComesUp v
  ShardOpens (refused e x y) = ShardStaysOut e x y
