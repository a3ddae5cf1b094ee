-- What putting bytes at the end of a vector leaves.
use Rattle.std.specs.Prelude.{◌≡◌, ◌≤◌, ◌<◌, ◌+◌, ℕ, List, ◌++◌, length, Result, Ok, Err, vec_capacity}
use Rattle.std.specs.Global.{Vec}

-- they stand there; or memory was refused, since there was no room for all, and only some may stand there
abbrev pub Puts : {T E : Type 0} → Vec ℕ → Vec ℕ → List ℕ → Result T E → Type 0
Puts old new text (Ok x) = (new.items ≡ old.items ++ text) × (vec_capacity old ≤ vec_capacity new)
Puts old new text (Err e) = ((more : List ℕ) × (new.items ≡ old.items ++ more)) × (vec_capacity old < length old.items + length text) × (vec_capacity old ≤ vec_capacity new)
