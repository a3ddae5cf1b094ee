-- What becomes of a cluster that a script carries over to another number of shards.
use Rattle.std.specs.Prelude.{◌≡◌, ◌+◌, ◌*◌, ◌⊎◌, ℕ, List, length, All, Result, Ok, Err}
use Rattle.cluster.specs.Openings.{IsOpenedOver}
use Rattle.cluster.specs.Worlds.{WorldView, flow_count}
use Rattle.device.specs.Device.{State}
use Rattle.refusal.specs.declared.refusal.Refusal.{Refusal}
use Rattle.refusal.specs.declared.refusal.Refusal.TheVariants.{BadRequest}
use Rattle.reshard.specs.Caring.{IsCaredFor}
use Rattle.reshard.specs.Made.{IsCarriedOver}
use Rattle.reshard.specs.Refusing.{AreUp, IsFirstDown}

module _ {D : Type 0} (state : D → State) (honest : D → Type 0) where
  -- no flow runs, and each node is up
  abbrev pub IsReady : WorldView D → Type 0
  IsReady w = (flow_count w.flows ≡ 0) × AreUp state honest w

  -- a flow runs; or a node is not up, and this is told of the first that is not
  abbrev pub IsUnready : WorldView D → Refusal → Type 0
  IsUnready w e = ((flow_count w.flows ≡ 0 → ⊥) × (e ≡ BadRequest)) ⊎ ((flow_count w.flows ≡ 0) × IsFirstDown state honest w e)

-- Given which devices there are for new nodes
module _ {D : Type 0} (gives : D → Type 0) (state : D → State) (honest : D → Type 0) (moment : D → ℕ) (left_since : D → ℕ → List ℕ → Type 0) where
  -- A store was cared for, its coordinator's flush first, and carried over to new devices; one of this many shards with the same id was opened over them.
  pub record IsMoved (old cared : WorldView D) (shards : ℕ) (new : WorldView D) : Type 0 where
    pub cared_for : IsCaredFor state honest moment left_since old cared
    pub given : List D
    pub made : List D
    pub fresh : All gives given
    pub count : length made ≡ 2 * (shards + 1)
    pub carried : IsCarriedOver state honest cared shards given made
    pub opened : IsOpenedOver state honest moment left_since cared.store shards made new

  -- If a flow runs or a node is not up nothing is done, and that is told. Else the nodes are cared for, and then the store is another one, or refuses.
  abbrev pub Reshards : WorldView D → ℕ → Result (Unit {0}) Refusal → WorldView D → WorldView D → Type 0
  Reshards old shards (Ok done) cared new = IsReady state honest old × IsMoved old cared shards new
  Reshards old shards (Err e) cared new = IsReady state honest old ⊎ (IsUnready state honest old e × (cared ≡ old))
