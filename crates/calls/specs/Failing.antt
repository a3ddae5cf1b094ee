-- What the script of a device makes of a node.
use Rattle.std.specs.Prelude.{◌≡◌, ◌↔◌, ℕ, List}
use Rattle.device.specs.Device.{Elapses, Keeps, State, left}
use Rattle.device.specs.declared.tear.Tear.{Tear}
use Rattle.journal.specs.declared.refused.Bank.{Bank}
use Rattle.journal.specs.Records.{IsSetOn}
use Rattle.decisions.specs.Coordinators.{CoordinatorView, KeepsOpen}
use Rattle.shard.specs.Shards.{ShardView}
use Rattle.calls.specs.Views.{NodeView, coordinator, shard, refused}

module _ {D : Type 0} (set : D → ℕ → Tear → Type 0) (state : D → State) (honest : D → Type 0) (moment : D → ℕ) (left_since : D → ℕ → List ℕ → Type 0) (bank : Bank) (n : ℕ) (tear : Tear) where
  -- one of two devices has the script; both hold what they held, have failed as often, and are as honest as before
  pub record DevicesAreSet (old_a old_b new_a new_b : D) : Type 0 where
    pub set_on : IsSetOn set bank n tear old_a old_b new_a new_b
    pub still_honest : (honest old_a ↔ honest new_a) × (honest old_b ↔ honest new_b)
    pub keeps_a : honest old_a → Keeps (state old_a) (state new_a)
    pub keeps_b : honest old_b → Keeps (state old_b) (state new_b)
    pub failures : ((state new_a).failures ≡ (state old_a).failures) × ((state new_b).failures ≡ (state old_b).failures)
    pub time_a : honest old_a → Elapses (moment old_a) (moment new_a) (left_since old_a) (left_since new_a) (left (state new_a))
    pub time_b : honest old_b → Elapses (moment old_b) (moment new_b) (left_since old_b) (left_since new_b) (left (state new_b))

  -- a coordinator is as it was, except for the device
  pub record CoordinatorIsSet (old new : CoordinatorView D) : Type 0 where
    pub devices : DevicesAreSet old.a old.b new.a new.b
    pub staged : (new.staged ≡ old.staged) × (new.is_down ≡ old.is_down) × (new.end ≡ old.end)
    pub keeps : KeepsOpen old new
    pub durable : honest old.a → honest old.b → new.durable ≡ old.durable

  -- a shard is as it was, except for the device
  pub record ShardIsSet (old new : ShardView D) : Type 0 where
    pub devices : DevicesAreSet old.a old.b new.a new.b
    pub staged : (new.staged ≡ old.staged) × (new.is_down ≡ old.is_down) × (new.end ≡ old.end) × (new.me ≡ old.me)
    pub durable : honest old.a → honest old.b → new.durable ≡ old.durable

  -- a node is as it was, except for the device
  abbrev pub NodeIsSet : NodeView D → NodeView D → Type 0
  NodeIsSet (coordinator old) (coordinator new) = CoordinatorIsSet old new
  NodeIsSet (shard old) (shard new) = ShardIsSet old new
  NodeIsSet (refused e a b) (refused f x y) = (f ≡ e) × DevicesAreSet a b x y
  NodeIsSet old new = ⊥
