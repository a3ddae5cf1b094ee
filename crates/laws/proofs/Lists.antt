-- Lists with one more element, and their first ones.
use Rattle.std.proofs.Common.{◌≡◌, ℕ, zero, suc, List, [], ◌∷◌, take, Some, slice_get}
use Rattle.laws.proofs.Words.{AreNew, Entry}

-- an element of the first ones is one of the list
pub slice_get_taken : {X : Type 0} (n : ℕ) (xs : List X) (i : ℕ) (x : X) → slice_get (take n xs) i ≡ Some x → slice_get xs i ≡ Some x
slice_get_taken zero xs i x is = absurd cc
slice_get_taken (suc n) [] i x is = absurd cc
slice_get_taken (suc n) (y ∷ xs) zero x is = is
slice_get_taken (suc n) (y ∷ xs) (suc i) x is = slice_get_taken n xs i x is

-- if no id stands twice, none does among the first ones
pub new_taken : (n : ℕ) (log : List Entry) → AreNew log → AreNew (take n log)
new_taken n log new i j v w is_v is_w same = new i j v w (slice_get_taken n log i v is_v) (slice_get_taken n log j w is_w) same
