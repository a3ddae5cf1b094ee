-- How two ascending lists become one: the greater of their last tuples is taken, and then the next one.
use Rattle.std.specs.Prelude.{◌≡◌, ◌⊎◌, ◌-◌, true, List, [], ◌∷◌, ◌++◌, length, Option, Some, None, slice_get}
use Rattle.tuples.specs.declared.tuple.Tuple.{Tuple}
use Rattle.tuples.specs.Order.{tuple_lt}

-- the last of these, if there is one, stands before the tuple
abbrev pub EndsBefore : List Tuple → Tuple → Type 0
EndsBefore ts t = (u : Tuple) → slice_get ts (length ts - 1) ≡ Some u → tuple_lt u t ≡ true

-- The tuple was the last of one list, after the last of the other, or of both; none if both are empty.
abbrev pub TakesLast : List Tuple → List Tuple → Option Tuple → List Tuple → List Tuple → Type 0
TakesLast left right None left_now right_now = (left ≡ []) × (right ≡ []) × (left_now ≡ []) × (right_now ≡ [])
TakesLast left right (Some t) left_now right_now = ((left ≡ left_now ++ t ∷ []) × (right_now ≡ right) × EndsBefore right t)
    ⊎ (((right ≡ right_now ++ t ∷ []) × (left_now ≡ left) × EndsBefore left t)
    ⊎ ((left ≡ left_now ++ t ∷ []) × (right ≡ right_now ++ t ∷ [])))
