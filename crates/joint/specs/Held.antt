-- What a pass holds: values under numbers, and the same of all that there are.
use Rattle.std.specs.Prelude.{◌≡◌, ◌==◌, ℕ, List, [], ◌∷◌, Option, Some, None, Contains, if◌then◌else◌}

-- what is held is of these values
abbrev pub IsOf : {A : Type 0} → List (ℕ × A) → (ℕ → Option A) → Type 0
IsOf {A} held all = (n : ℕ) (a : A) → Contains held (n, a) → all n ≡ Some a

-- no number is held twice
unfoldable pub AreApart : {A : Type 0} → List (ℕ × A) → Type 0
AreApart [] = Unit {0}
AreApart {A} (x ∷ more) = ((a : A) → Contains more (x.0, a) → ⊥) × AreApart more

-- the value under a number, if one is held
unfoldable pub under : {A : Type 0} → List (ℕ × A) → ℕ → Option A
under [] n = None
under (x ∷ more) n = if n == x.0 then Some x.1 else under more n

-- a value under this number, if there is one
abbrev pub numbered : {A : Type 0} → ℕ → Option A → List (ℕ × A)
numbered n None = []
numbered n (Some a) = (n, a) ∷ []

-- the values with another under this number, if there is one
abbrev pub with_value : {A : Type 0} → ℕ → Option A → (ℕ → Option A) → ℕ → Option A
with_value k None all n = all n
with_value k (Some a) all n = if n == k then Some a else all n

-- a value in place of the one that is held, if exactly one is
abbrev pub in_place : {A : Type 0} → List (ℕ × A) → Option A → List (ℕ × A)
in_place [] new = []
in_place (x ∷ []) None = x ∷ []
in_place (x ∷ []) (Some a) = (x.0, a) ∷ []
in_place (x ∷ y ∷ more) new = x ∷ y ∷ more

-- all values with this one in place of the one that is held
abbrev pub put : {A : Type 0} → List (ℕ × A) → Option A → (ℕ → Option A) → ℕ → Option A
put [] new all = all
put (x ∷ []) new all = with_value x.0 new all
put (x ∷ y ∷ more) new all = all
