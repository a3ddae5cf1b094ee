-- At which place an answer is.
use Rattle.std.specs.Prelude.{◌≡◌, ◌≤◌, ◌<◌, ◌⊎◌, ℕ}
use Rattle.refusal.specs.declared.refusal.Refusal.{Refusal}
use Rattle.refusal.specs.declared.refusal.Refusal.TheVariants.{Collected, Future}
use Rattle.decisions.specs.Flows.{Freshness, at_least, exact, latest}
use Rattle.decisions.specs.Standing.{HeadsValue}
use Rattle.answer_flow.specs.declared.finding.Found.{Found}
use Rattle.answer_flow.specs.declared.finding.Found.TheVariants.{At, Later, Refused}

-- the place that heads give: the kept one; the kept one, if it is not below the one given; or the one given, if it is kept and not below the horizon
abbrev pub FindsPlace : Freshness → HeadsValue → ℕ → Type 0
FindsPlace latest v place = place ≡ v.kept
FindsPlace (at_least z) v place = (place ≡ v.kept) × (z ≤ place)
FindsPlace (exact z) v place = (place ≡ z) × (z ≤ v.kept) × (v.horizon ≤ z)

-- the place given lies above the log
abbrev pub IsAbove : Freshness → HeadsValue → Type 0
IsAbove latest v = ⊥
IsAbove (at_least z) v = v.length < z
IsAbove (exact z) v = v.length < z

-- the place given lies in the log, and below the horizon; one that is only a least place is served there
abbrev pub IsForgotten : Freshness → HeadsValue → Type 0
IsForgotten latest v = ⊥
IsForgotten (at_least z) v = ⊥
IsForgotten (exact z) v = (z ≤ v.length) × (z < v.horizon)

-- the place given lies in the log, and is not kept yet
abbrev pub IsNotKept : Freshness → HeadsValue → Type 0
IsNotKept latest v = ⊥
IsNotKept (at_least z) v = (z ≤ v.length) × (v.kept < z)
IsNotKept (exact z) v = (z ≤ v.length) × (v.kept < z) × (v.horizon ≤ z)

-- why a place is refused
pub record IsRefused (fresh : Freshness) (v : HeadsValue) (e : Refusal) : Type 0 where
  pub future : e ≡ Future → IsAbove fresh v
  pub collected : e ≡ Collected → IsForgotten fresh v
  pub one : (e ≡ Future) ⊎ (e ≡ Collected)

-- what heads tell of the place
abbrev pub Finds : Freshness → HeadsValue → Found → Type 0
Finds fresh v (At place) = FindsPlace fresh v place
Finds fresh v Later = IsNotKept fresh v
Finds fresh v (Refused e) = IsRefused fresh v e
