-- Numbers of connections, which begin at 1.
use Rattle.std.specs.Prelude.{◌≡◌, ◌==◌, ℕ, zero, suc, ◌+◌, ◌≤◌, if◌then◌else◌, List, [], ◌∷◌}

-- how often x stands in the list
abbrev pub times : ℕ → List ℕ → ℕ
times x [] = 0
times x (y ∷ ys) = (if y == x then 1 else 0) + times x ys

-- 1 if x is one of the numbers 1 to n, and else 0
abbrev pub once_up_to : ℕ → ℕ → ℕ
once_up_to x zero = 0
once_up_to x (suc n) = once_up_to x n + (if suc n == x then 1 else 0)

-- the k numbers after m
abbrev pub behind : ℕ → ℕ → List ℕ
behind m zero = []
behind m (suc k) = suc m ∷ behind (suc m) k

-- each number in the list is one of 1 to n
abbrev pub IsUpTo : ℕ → List ℕ → Type 0
IsUpTo n [] = Unit {0}
IsUpTo n (y ∷ ys) = (1 ≤ y) × (y ≤ n) × IsUpTo n ys

-- the number is above all in the list
abbrev pub IsAbove : ℕ → List ℕ → Type 0
IsAbove n ys = (m : ℕ) × (n ≡ suc m) × IsUpTo m ys

-- each of the numbers 1 to n stands once, and no other does
abbrev pub IsEach : ℕ → List ℕ → Type 0
IsEach n taken = (x : ℕ) → times x taken ≡ once_up_to x n

-- no number stands twice
abbrev pub IsOnceEach : List ℕ → Type 0
IsOnceEach taken = (x : ℕ) → times x taken ≤ 1
