-- Names that lie in their value, and longer ones.
use Rattle.std.specs.Prelude.{◌≡◌, ◌≤◌, ℕ, List, take, slice_index}
use Rattle.tuples.specs.declared.name.Text.{Text}
use Rattle.tuples.specs.declared.name.Text.TheVariants.{Short, Long}

-- the most bytes of a name that lie in its value
abbrev pub max_short : ℕ
max_short = 30

-- the bytes of a name
abbrev pub spelled : Text → List ℕ
spelled (Short length bytes) = take length bytes
spelled (Long bytes) = bytes.items

-- there are zeros alone from the place on
abbrev pub IsPadded : List ℕ → ℕ → Type 0
IsPadded bytes place = (i : ℕ) → place ≤ i → slice_index bytes i ≡ 0

-- a short one has as many bytes as lie in its value, and zeros after them
abbrev pub IsSound : Text → Type 0
IsSound (Short length bytes) = (length ≤ max_short) × IsPadded bytes length
IsSound (Long bytes) = Unit {0}
