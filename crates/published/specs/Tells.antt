-- What each kind of step tells the pass that makes it. In each, v is what the pass knew before, and w what it knows after.
use Rattle.std.specs.Prelude.{◌≡◌, ℕ, ◌≤◌, true, false, List, [], ◌++◌, length, max}
use mathlib.Core.List.{IsPrefix}
use Rattle.atomic_table.specs.Table.{Me, Step}
use Rattle.published.specs.declared.rule.View.{View}
use Rattle.published.specs.OneList.{leader}

module _ {W : Type 0} where
  -- a new session's view, of all that this pass has seen
  abbrev pub note : View W → View W
  note v = record { leads = false; seen = v.seen; horizon = v.horizon; told = []; told_horizon = 0 }

  -- the view of a pass that was dropped
  abbrev pub nobody : View W
  nobody = record { leads = false; seen = []; horizon = 0; told = []; told_horizon = 0 }

  -- a view that was told what another has seen
  abbrev pub told_of : View W → View W → View W
  told_of v u = record { leads = v.leads; seen = v.seen; horizon = v.horizon; told = u.seen; told_horizon = u.horizon }

  -- the list so far was seen: it begins with what was seen and with what was told, and is no shorter than the horizon
  pub record Saw (v w : View W) : Type 0 where
    pub leads : w.leads ≡ v.leads
    pub seen : IsPrefix v.seen w.seen
    pub told : IsPrefix v.told w.seen
    pub known : max v.horizon v.told_horizon ≤ w.horizon
    pub below : w.horizon ≤ length w.seen
    pub rest : w.told_horizon ≡ 0
    pub same : v.leads ≡ true → (w.seen ≡ v.seen) × (w.horizon ≡ v.horizon)

  -- the list so far was seen, and the safe place is its length
  abbrev pub LoadedPlace : Step (Unit {0}) → Me (Unit {0}) (View W) → ℕ → Me (Unit {0}) (View W) → Type 0
  LoadedPlace step me found me' = (me'.1 ≡ me.1) × Saw me.0 me'.0 × (length me'.0.seen ≡ found) × (me'.0.horizon ≡ max me.0.horizon me.0.told_horizon)

  -- the list so far was seen, and what was found is the horizon
  abbrev pub LoadedHorizon : Step (Unit {0}) → Me (Unit {0}) (View W) → ℕ → Me (Unit {0}) (View W) → Type 0
  LoadedHorizon step me found me' = (me'.1 ≡ me.1) × Saw me.0 me'.0 × (me'.0.horizon ≡ found)

  -- the writes were added to the list
  abbrev pub Advanced : List W → Step (Unit {0}) → Me (Unit {0}) (View W) → ℕ → Me (Unit {0}) (View W) → Type 0
  Advanced added step me found me' = (me'.1 ≡ me.1) × (me'.0 ≡ leader (me.0.seen ++ added) me.0.horizon) × (found ≡ length me.0.seen)

  -- the horizon is the greater of what it was and what was asked
  abbrev pub Raised : Step (Unit {0}) → Me (Unit {0}) (View W) → ℕ → Me (Unit {0}) (View W) → Type 0
  Raised step me found me' = (me'.1 ≡ me.1) × (me'.0 ≡ leader me.0.seen (max me.0.horizon step.first)) × (found ≡ me.0.horizon)
