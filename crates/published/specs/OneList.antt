-- The rule of the two words: one list of writes, of which each pass knows a beginning.
use Rattle.std.specs.Prelude.{◌≡◌, ℕ, ◌≤◌, true, List, [], ◌∷◌, length}
use mathlib.Core.Option.{some}
use mathlib.Core.List.{IsPrefix}
use lib.ListN.{get_elem?}
use Rattle.atomic_table.specs.Table.{State}
use Rattle.published.specs.declared.rule.View.{View}

module _ {W : Type 0} where
  -- the view of the log's pass, which knows the whole list and the horizon
  abbrev pub leader : List W → ℕ → View W
  leader seen horizon = record { leads = true; seen = seen; horizon = horizon; told = []; told_horizon = 0 }

  -- the log's pass over an empty list
  abbrev pub opener : View W
  opener = leader [] 0

  -- what a pass has seen and was told is a beginning of the list; the log's pass has seen all of it, and knows the horizon
  pub record Fits (list : List W) (horizon log_seat seat : ℕ) (v : View W) : Type 0 where
    pub seen : IsPrefix v.seen list
    pub known : v.horizon ≤ horizon
    pub told : IsPrefix v.told list
    pub told_known : v.told_horizon ≤ horizon
    pub first : v.leads ≡ true → (seat ≡ log_seat) × (v.seen ≡ list) × (v.horizon ≡ horizon)

  -- there is one list, as long as the safe place says; the horizon is no greater; each pass fits, and one alone leads
  pub record Kept (s : State (Unit {0}) (View W)) : Type 0 where
    pub list : List W
    pub horizon : ℕ
    pub log_seat : ℕ
    pub words : s.words ≡ length list ∷ horizon ∷ []
    pub below : horizon ≤ length list
    pub passes : (seat : ℕ) (v : View W) → get_elem? s.views seat ≡ some v → Fits list horizon log_seat seat v
