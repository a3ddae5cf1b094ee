-- Lists of usersets in which none stands twice.
use Rattle.std.proofs.Common.{◌≡◌, ⊎_elim, zero, suc, ◌+◌, List, [], ◌∷◌, ◌++◌, length, Contains, sym, subst, arith}
use Rattle.std.proofs.lemmas.Option.{slice_get_within}
use Rattle.tuples.specs.declared.object.Userset.{Userset}
use Rattle.tuples.specs.Checking.{AreOnce}
use Rattle.tuples.proofs.Lists.{contained_at, contained_from, slice_get_behind, slice_get_either, slice_get_longer}

pub once_left : (xs ys : List Userset) → AreOnce (xs ++ ys) → AreOnce xs
once_left xs ys once i j x is_i is_j = once i j x (slice_get_longer xs ys i x is_i) (slice_get_longer xs ys j x is_j)

pub once_right : (xs ys : List Userset) → AreOnce (xs ++ ys) → AreOnce ys
once_right xs ys once i j x is_i is_j = let e = once (length xs + i) (length xs + j) x (slice_get_behind xs ys i x is_i) (slice_get_behind xs ys j x is_j) in omega (arith, e)

-- none is in both
pub once_apart : (xs ys : List Userset) (x : Userset) → AreOnce (xs ++ ys) → Contains xs x → Contains ys x → ⊥
once_apart xs ys x once left right =
    let i = contained_at xs x left in
    let j = contained_at ys x right in
    let lt = slice_get_within xs i.0 x i.1 in
    let e = once i.0 (length xs + j.0) x (slice_get_longer xs ys i.0 x i.1) (slice_get_behind xs ys j.0 x j.1) in
    omega (arith, lt, e)

-- two such lists with none in both are such a list
pub once_both : (xs ys : List Userset) → AreOnce xs → AreOnce ys → ((x : Userset) → Contains xs x → Contains ys x → ⊥) → AreOnce (xs ++ ys)
once_both xs ys left right apart i j x is_i is_j = ⊎_elim
    (λ a. ⊎_elim
    (λ b. left i j x a b)
    (λ b. absurd (apart x (contained_from xs i x a) (contained_from ys b.0 x b.2)))
    (slice_get_either xs ys j x is_j))
    (λ a. ⊎_elim
    (λ b. absurd (apart x (contained_from xs j x b) (contained_from ys a.0 x a.2)))
    (λ b. let e = right a.0 b.0 x a.2 b.2 in omega (arith, e, a.1, b.1))
    (slice_get_either xs ys j x is_j))
    (slice_get_either xs ys i x is_i)

-- one more that is not among them
pub once_more : (xs : List Userset) (y : Userset) → AreOnce xs → (Contains xs y → ⊥) → AreOnce (xs ++ y ∷ [])
once_more xs y once not = once_both xs (y ∷ []) once alone (λ x has is. not (subst (Contains xs) (sym (only x is)) has))
  where
    alone : AreOnce (y ∷ [])
    alone i j x is_i is_j = let p = slice_get_within (y ∷ []) i x is_i in let q = slice_get_within (y ∷ []) j x is_j in omega (arith, p, q)

    only : (x : Userset) → Contains (y ∷ []) x → y ≡ x
    only x (zero, lt, is) = is
    only x (suc k, lt, is) = absurd (omega (arith, lt))
