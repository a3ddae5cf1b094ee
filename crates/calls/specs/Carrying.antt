-- How far a node reaches, and what of it is carried over to a store of another number of shards.
use Rattle.std.specs.Prelude.{◌≡◌, ◌↔◌, ℕ, List, true, Result, Err, IfErr, IfOk, IsErr, OnOk}
use Rattle.refusal.specs.declared.refusal.Refusal.{Refusal}
use Rattle.refusal.specs.declared.refusal.Refusal.TheVariants.{BadRequest, Down}
use Rattle.records.specs.Coordinators.{end_of}
use Rattle.device.specs.Device.{LeavesOnly, State}
use Rattle.journal.specs.Beginnings.{BegunView, HasBeginsOr}
use Rattle.journal.specs.Records.{HasRecords}
use Rattle.decisions.specs.Checkpoints.{carried_checkpoint}
use Rattle.decisions.specs.Coordinators.{CoordinatorView, IsRunning, kept_of}
use Rattle.shard.specs.Shards.{IsUp, ShardView, memory}
use Rattle.calls.specs.Views.{NodeView, coordinator, shard, refused}
use Rattle.calls.specs.declared.carrying.Reach.{Reach}

module _ {D : Type 0} (state : D → State) (honest : D → Type 0) where
  -- a coordinator answers the place of its last durable decision, and its durable horizon
  pub record CoordinatorReaches (v : CoordinatorView D) (r : Result Reach Refusal) : Type 0 where
    pub ok : IsRunning state honest v → IfOk r (λ reach. (reach.place ≡ end_of (kept_of v)) × (reach.horizon ≡ (kept_of v).horizon))
    pub down : IsErr r ↔ (v.is_down ≡ true)
    pub err : IfErr r (λ e. e ≡ Down)

  -- a shard the place up to which it has learned, and its horizon
  pub record ShardReaches (v : ShardView D) (r : Result Reach Refusal) : Type 0 where
    pub ok : IsUp state honest v → IfOk r (λ reach. (reach.place ≡ (memory v).learned) × (reach.horizon ≡ (memory v).horizon))
    pub down : IsErr r ↔ (v.is_down ≡ true)
    pub err : IfErr r (λ e. e ≡ Down)

  -- and a node whose opening was refused answers that refusal
  abbrev pub Reaches : NodeView D → Result Reach Refusal → Type 0
  Reaches (coordinator v) r = CoordinatorReaches v r
  Reaches (shard v) r = ShardReaches v r
  Reaches (refused e a b) r = r ≡ Err e

module _ {D : Type 0} (state : D → State) (honest : D → Type 0) (moment : D → ℕ) (left_since : D → ℕ → List ℕ → Type 0) where
  -- What the coordinator knows is written after the begin of a checkpoint of the coordinator of this many shards.
  pub record IsCarried (shards : ℕ) (v : CoordinatorView D) (old : BegunView D) (r : Result (Unit {0}) Refusal) (new : BegunView D) : Type 0 where
    pub still_honest : (honest old.a ↔ honest new.a) × (honest old.b ↔ honest new.b)
    pub ok : IsRunning state honest v → honest old.a → honest old.b → OnOk r (HasRecords (state new.a) (state new.b) (carried_checkpoint shards v))
    pub moments : IsRunning state honest v → old.is_open ≡ true → honest old.a → LeavesOnly moment left_since old.a new.a (HasBeginsOr (carried_checkpoint shards v))
    pub same : new.b ≡ old.b
    pub err : IfErr r (λ e. e ≡ Down)

  -- A shard has nothing of the kind, and a node whose opening was refused answers that refusal.
  abbrev pub Carries : ℕ → NodeView D → BegunView D → Result (Unit {0}) Refusal → BegunView D → Type 0
  Carries shards (coordinator v) old r new = IsCarried shards v old r new
  Carries shards (shard v) old r new = (r ≡ Err BadRequest) × (new ≡ old)
  Carries shards (refused e a b) old r new = (r ≡ Err e) × (new ≡ old)
