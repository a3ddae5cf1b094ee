-- Sets of numbers as the bits of one number.
use Rattle.std.specs.Prelude.{◌≡◌, ℕ, ◌==◌, List, if◌then◌else◌}
use Rattle.std.specs.Int.{bit_at}
use Rattle.std.specs.List.{list_any}

-- bit k is set for the numbers k of the list, and no other
abbrev pub AreBitsOf : List ℕ → ℕ → Type 0
AreBitsOf numbers bits = (k : ℕ) → bit_at bits k ≡ (if list_any (λ n. n == k) numbers then 1 else 0)
