-- A law of two parts, for the tests and for small values.
use Rattle.std.specs.Prelude.{◌≡◌, ◌≤◌, ℕ, Some}
use Rattle.joint.specs.Whole.{Whole}

-- part 1 is no greater than part 0
abbrev pub IsBehind : Whole ℕ ℕ → Type 0
IsBehind whole = (count follower : ℕ) → whole.parts 0 ≡ Some count → whole.parts 1 ≡ Some follower → follower ≤ count

-- part 0 has reached this number
abbrev pub HasReached : Whole ℕ ℕ → ℕ → Type 0
HasReached whole n = (count : ℕ) × (whole.parts 0 ≡ Some count) × (n ≤ count)
