-- How often a number stands in a list.
use Rattle.std.proofs.Common.{◌≡◌, ◌≢◌, ◌==◌, ℕ, zero, suc, ◌+◌, ◌≤◌, ◌<◌, List, [], ◌∷◌, ◌++◌, Bool, refl, ap, ◌∙◌, arith, eq-eqb, ne_eqb, if◌then◌else◌}
use mathlib.Core.Logic.{dite}
use native.Mathlib.Decide.{ℕ_discrete}
use Rattle.connections.specs.Numbers.{times, once_up_to, behind, IsUpTo}

pub times-append : (x : ℕ) (ys zs : List ℕ) → times x (ys ++ zs) ≡ times x ys + times x zs
times-append x [] zs = omega arith
times-append x (y ∷ ys) zs = let more = times-append x ys zs in omega arith

pub behind-suc : (m k : ℕ) → behind m k ++ suc (m + k) ∷ [] ≡ behind m (suc k)
behind-suc m zero = let is : suc (m + 0) ≡ suc m = omega arith in ap (λ n. n ∷ []) is
behind-suc m (suc k) = let is : suc (m + suc k) ≡ suc (suc m + k) = omega arith in ap (λ n. suc m ∷ (behind (suc m) k ++ n ∷ [])) is ∙ ap (λ l. suc m ∷ l) (behind-suc (suc m) k)

pub up_to_more : (n m : ℕ) (ys : List ℕ) → n ≤ m → IsUpTo n ys → IsUpTo m ys
up_to_more n m [] le h = tt
up_to_more n m (y ∷ ys) le h = (h.0, omega (arith, h.1, le), up_to_more n m ys le h.2)

pub up_to_push : (n y : ℕ) (ys : List ℕ) → 1 ≤ y → y ≤ n → IsUpTo n ys → IsUpTo n (ys ++ y ∷ [])
up_to_push n y [] one le h = (one, le, tt)
up_to_push n y (z ∷ ys) one le h = (h.0, h.1, up_to_push n y ys one le h.2)

pub up_to_both : (n : ℕ) (xs ys : List ℕ) → IsUpTo n xs → IsUpTo n ys → IsUpTo n (xs ++ ys)
up_to_both n [] ys a b = b
up_to_both n (x ∷ xs) ys a b = (a.0, a.1, up_to_both n xs ys a.2 b)

abbrev tick : ℕ → ℕ → ℕ
tick y x = if y == x then 1 else 0

tick_no : (y x : ℕ) → y ≢ x → tick y x ≡ 0
tick_no y x ne = let f : Bool → ℕ = λ b. if b then 1 else 0 in ap f (ne_eqb y x ne)

tick_yes : (y x : ℕ) → y ≡ x → tick y x ≡ 1
tick_yes y x e = let f : Bool → ℕ = λ b. if b then 1 else 0 in ap f (eq-eqb y x e)

none_yet : (x n : ℕ) → n < x → once_up_to x n ≡ 0
none_yet x zero lt = refl
none_yet x (suc n) lt = let before = none_yet x n (omega arith) in let other : tick (suc n) x ≡ 0 = tick_no (suc n) x (λ e. omega arith) in omega arith

pub once_at_most : (x n : ℕ) → once_up_to x n ≤ 1
once_at_most x zero = omega arith
once_at_most x (suc n) = dite (ℕ_discrete (suc n) x)
    (λ e. let before = none_yet x n (omega arith) in let here : tick (suc n) x ≡ 1 = tick_yes (suc n) x e in omega arith)
    (λ ne. let before = once_at_most x n in let other : tick (suc n) x ≡ 0 = tick_no (suc n) x ne in omega arith)
