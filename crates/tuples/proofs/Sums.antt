-- Sums of bytes.
use Rattle.std.proofs.Common.{◌≡◌, ℕ, zero, suc, ◌+◌, ◌*◌, ◌<◌, ◌≤◌, List, [], ◌∷◌, length, get_or, sum, arith}
use Rattle.std.proofs.lemmas.List.Sums.{sum_by-cons}

-- bytes add up to at most 255 each
pub sum_bytes : (xs : List ℕ) → ((i : ℕ) → get_or xs i 0 < 256) → sum xs ≤ 255 * length xs
sum_bytes [] each = omega arith
sum_bytes (x ∷ xs) each =
    let here : x < 256 = each zero in
    let rest = sum_bytes xs (λ i. each (suc i)) in
    let step : sum (x ∷ xs) ≡ x + sum xs = sum_by-cons (λ n. n) x xs in
    omega (arith, here, rest, step)
