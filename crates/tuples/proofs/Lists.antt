-- Elements of lists by their places: of a longer list, of its first elements, and of the rest.
use Rattle.std.proofs.Common.{◌≡◌, ◌⊎◌, inl, inr, ⊎_elim, ℕ, zero, suc, ◌+◌, ◌<◌, ◌≤◌, List, [], ◌∷◌, ◌++◌, length, take, drop, Some, slice_get, Contains, refl, sym, ◌∙◌, ap, subst, arith, length-append, eqb, get_or, false}
use Rattle.std.specs.List.{AllByRecursion}
use Rattle.std.proofs.lemmas.List.Elements.{Contains-append_cases}
use Rattle.std.proofs.lemmas.Option.{get_or_from_slice_get, slice_get-get_or, slice_get_within}
use Rattle.std.proofs.lemmas.Bool.{false≢true}
use Rattle.std.proofs.lemmas.Bool.Decides.{Decides-eqb}
use mathlib.Core.List.{IsPrefix}

-- lists that are one begin alike
pub heads : {A : Type 0} (a b : A) (xs ys : List A) → a ∷ xs ≡ b ∷ ys → a ≡ b
heads a b xs ys e = cc

-- and go on alike
pub tails : {A : Type 0} (a b : A) (xs ys : List A) → a ∷ xs ≡ b ∷ ys → xs ≡ ys
tails a b xs ys e = cc

pub nothing_in : {X : Type 0} (x : X) → Contains [] x → ⊥
nothing_in x has = omega (arith, has.1)

-- an element of a list is the first one, or one of the rest
pub first_or_later : {X : Type 0} (x y : X) (xs : List X) → Contains (x ∷ xs) y → (x ≡ y) ⊎ Contains xs y
first_or_later x y xs has = ⊎_elim (λ first. inl (only first)) (λ rest. inr rest) (Contains-append_cases (x ∷ []) xs y has)
  where
    only : Contains (x ∷ []) y → x ≡ y
    only (zero, lt, is) = is
    only (suc k, lt, is) = absurd (omega (arith, lt))

-- an element stands at some place
pub contained_at : {X : Type 0} (xs : List X) (x : X) → Contains xs x → (i : ℕ) × (slice_get xs i ≡ Some x)
contained_at xs x is = (is.0, slice_get-get_or xs is.0 x is.1 ∙ ap Some is.2)

pub contained_from : {X : Type 0} (xs : List X) (i : ℕ) (x : X) → slice_get xs i ≡ Some x → Contains xs x
contained_from xs i x is = (i, slice_get_within xs i x is, get_or_from_slice_get xs i x x is)

-- what stands in a list stands there in a longer one
pub slice_get_longer : {X : Type 0} (xs ys : List X) (i : ℕ) (x : X) → slice_get xs i ≡ Some x → slice_get (xs ++ ys) i ≡ Some x
slice_get_longer [] ys i x is = absurd cc
slice_get_longer (y ∷ xs) ys zero x is = is
slice_get_longer (y ∷ xs) ys (suc i) x is = slice_get_longer xs ys i x is

-- and what stands in the second of two lists, after the first
pub slice_get_behind : {X : Type 0} (xs ys : List X) (j : ℕ) (x : X) → slice_get ys j ≡ Some x → slice_get (xs ++ ys) (length xs + j) ≡ Some x
slice_get_behind [] ys j x is = let e : 0 + j ≡ j = omega arith in subst (λ (i : ℕ). slice_get ys i ≡ Some x) (sym e) is
slice_get_behind (y ∷ xs) ys j x is = let e : length (y ∷ xs) + j ≡ suc (length xs + j) = omega arith in subst (λ (i : ℕ). slice_get (y ∷ xs ++ ys) i ≡ Some x) (sym e) (slice_get_behind xs ys j x is)

-- an element of two lists, one after the other, is of the first or of the second
pub slice_get_either : {X : Type 0} (xs ys : List X) (j : ℕ) (x : X) → slice_get (xs ++ ys) j ≡ Some x → (slice_get xs j ≡ Some x) ⊎ ((i : ℕ) × (j ≡ length xs + i) × (slice_get ys i ≡ Some x))
slice_get_either [] ys j x is = inr (j, omega arith, is)
slice_get_either (y ∷ xs) ys zero x is = inl is
slice_get_either (y ∷ xs) ys (suc j) x is = ⊎_elim (λ here. inl here) (λ there. inr (there.0, omega (arith, there.1), there.2)) (slice_get_either xs ys j x is)

-- an element of a list with one more is of the list, or the last one
pub slice_get_push : {X : Type 0} (xs : List X) (x y : X) (j : ℕ) → slice_get (xs ++ x ∷ []) j ≡ Some y → (slice_get xs j ≡ Some y) ⊎ ((j ≡ length xs) × (x ≡ y))
slice_get_push [] x y zero is = inr (refl, cc)
slice_get_push [] x y (suc j) is = absurd cc
slice_get_push (z ∷ xs) x y zero is = inl is
slice_get_push (z ∷ xs) x y (suc j) is = ⊎_elim (λ old. inl old) (λ new. inr (omega (arith, new.0), new.1)) (slice_get_push xs x y j is)

pub slice_get_last : {X : Type 0} (xs : List X) (x : X) → slice_get (xs ++ x ∷ []) (length xs) ≡ Some x
slice_get_last [] x = refl
slice_get_last (y ∷ xs) x = slice_get_last xs x

pub slice_get_drop : {X : Type 0} (n : ℕ) (xs : List X) (j : ℕ) → slice_get (drop n xs) j ≡ slice_get xs (n + j)
slice_get_drop zero xs j = ap (slice_get xs) (omega arith)
slice_get_drop (suc n) [] j = refl
slice_get_drop (suc n) (x ∷ xs) j = slice_get_drop n xs j ∙ ap (slice_get (x ∷ xs)) (let e : suc (n + j) ≡ suc n + j = omega arith in e)

pub slice_get_take : {X : Type 0} (n : ℕ) (xs : List X) (j : ℕ) → j < n → slice_get (take n xs) j ≡ slice_get xs j
slice_get_take zero xs j lt = absurd (omega (arith, lt))
slice_get_take (suc n) [] j lt = refl
slice_get_take (suc n) (x ∷ xs) zero lt = refl
slice_get_take (suc n) (x ∷ xs) (suc j) lt = slice_get_take n xs j (omega (arith, lt))

-- an element of a list is one of its first
pub taken_there : {X : Type 0} (n : ℕ) (xs : List X) (i : ℕ) (x : X) → i < n → slice_get xs i ≡ Some x → slice_get (take n xs) i ≡ Some x
taken_there n xs i x lt is = slice_get_take n xs i lt ∙ is

-- an element stands in the middle of no empty list
pub no_element : {X : Type 0} (before after : List X) (x : X) → [] ≡ before ++ x ∷ after → ⊥
no_element [] after x is = absurd cc
no_element (y ∷ before) after x is = absurd cc

-- an element of a longer list is the new one, or one of the old
pub cut_last : {X : Type 0} (rs before after : List X) (r x : X) → rs ++ r ∷ [] ≡ before ++ x ∷ after → ((rs ≡ before) × (r ≡ x)) ⊎ ((more : List X) × (rs ≡ before ++ x ∷ more))
cut_last [] [] after r x is = inl (refl, cc)
cut_last [] (b ∷ before) after r x is = absurd (no_element before after x cc)
cut_last (y ∷ rs) [] after r x is = inr (rs, cc)
cut_last (y ∷ rs) (b ∷ before) after r x is =
    let first : y ≡ b = cc in
    let rest : rs ++ r ∷ [] ≡ before ++ x ∷ after = cc in
    ⊎_elim
    (λ new. inl (cc, new.1))
    (λ old. let whole = old.1 in inr (old.0, cc))
    (cut_last rs before after r x rest)

pub prefix_length : {X : Type 0} (xs ys : List X) → IsPrefix xs ys → length xs ≤ length ys
prefix_length xs ys pre = omega (arith, ap length pre.1, length-append xs pre.0)

-- what holds of each element holds of it with less said
pub each_weaker : {X : Type 0} (P Q : X → Type 0) → ((x : X) → P x → Q x) → (xs : List X) → AllByRecursion P xs → AllByRecursion Q xs
each_weaker P Q weaker [] each = tt
each_weaker P Q weaker (x ∷ xs) each = (weaker x each.0, each_weaker P Q weaker xs each.1)

-- words that differ in a byte are not the same first word
pub other_first : (i : ℕ) (a b : List ℕ) (ws vs : List (List ℕ)) → eqb (get_or a i 0) (get_or b i 0) ≡ false → a ∷ ws ≡ b ∷ vs → ⊥
other_first i a b ws vs differ e =
    let same : get_or a i 0 ≡ get_or b i 0 = ap (λ (x : List ℕ). get_or x i 0) (heads a b ws vs e) in
    false≢true (sym differ ∙ (Decides-eqb (get_or a i 0) (get_or b i 0)).1 same)
