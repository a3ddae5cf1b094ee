-- A selection is sorted, and there is one of them.
use Rattle.std.proofs.Common.{◌≡◌, ◌⊎◌, inl, inr, ⊎_elim, ◌<◌, ◌∷◌, [], ℕ, zero, suc, Bool, true, true≢false, List, Some, sym, ◌∙◌, ap, arith, refl, subst, slice_get, slice_index_or, All, Contains}
use Rattle.std.proofs.lemmas.List.Elements.{All-nil, All-cons, All-contains, Contains-append_cases, Contains-append_right}
use Rattle.tuples.specs.declared.tuple.Tuple.{Tuple}
use Rattle.tuples.specs.declared.tupleset.Tupleset.{Tupleset}
use Rattle.tuples.specs.Order.{tuple_lt}
use Rattle.tuples.specs.Reads.{AreAscending, IsSelection}
use Rattle.tuples.proofs.Ordered.{tuple_lt_trans, tuple_lt_irrefl, tuple_lt_asymm, tuple_lt_total, rest_ascends}

-- the first tuple stands before each other
first_before : (t : Tuple) (ts : List Tuple) → AreAscending (t ∷ ts) → (j : ℕ) (u : Tuple) → slice_get ts j ≡ Some u → tuple_lt t u ≡ true
first_before t [] asc zero u is = absurd (cc)
first_before t [] asc (suc j) u is = absurd (cc)
first_before t (v ∷ ts) asc zero u is = subst (λ (x : Tuple). tuple_lt t x ≡ true) (let e : v ≡ u = cc in e) asc.0
first_before t (v ∷ ts) asc (suc j) u is = tuple_lt_trans t v u asc.0 (first_before v ts asc.1 j u is)

-- each tuple stands before those after it
before : (ts : List Tuple) → AreAscending ts → (i j : ℕ) (t u : Tuple) → slice_get ts i ≡ Some t → slice_get ts j ≡ Some u → i < j → tuple_lt t u ≡ true
before [] asc zero j t u is js lt = absurd (cc)
before [] asc (suc i) j t u is js lt = absurd (cc)
before (v ∷ ts) asc zero zero t u is js lt = absurd (omega (arith, lt))
before (v ∷ ts) asc zero (suc j) t u is js lt = subst (λ (x : Tuple). tuple_lt x u ≡ true) (let e : v ≡ t = cc in e) (first_before v ts asc j u js)
before (v ∷ ts) asc (suc i) zero t u is js lt = absurd (omega (arith, lt))
before (v ∷ ts) asc (suc i) (suc j) t u is js lt = before ts (rest_ascends v ts asc) i j t u is js (omega (arith, lt))

pub selections_ascend : (there : Tuple → Bool) (q : Tupleset) (rows : List Tuple) → IsSelection there q rows
    → (i j : ℕ) (t u : Tuple) → slice_get rows i ≡ Some t → slice_get rows j ≡ Some u → i < j → tuple_lt t u ≡ true
selections_ascend there q rows selects = before rows selects.ascending

-- each tuple that a list has stands after the one before the list
all_behind : (t : Tuple) (ts : List Tuple) → AreAscending (t ∷ ts) → All (λ u. tuple_lt t u ≡ true) ts
all_behind t [] asc = All-nil (λ u. tuple_lt t u ≡ true)
all_behind t (v ∷ ts) asc = All-cons (λ u. tuple_lt t u ≡ true) v ts asc.0 (λ k d lt. tuple_lt_trans t v (slice_index_or ts k d) asc.0 (all_behind v ts asc.1 k d lt))

has_first : (t : Tuple) (ts : List Tuple) → Contains (t ∷ ts) t
has_first t ts = (0, omega arith, refl)

-- a tuple of a list that begins with another stands among the others
among_rest : (t u : Tuple) (ts : List Tuple) → Contains (t ∷ ts) u → (t ≡ u) ⊎ Contains ts u
among_rest t u ts has = ⊎_elim (λ first. inl (only first)) (λ rest. inr rest) (Contains-append_cases (t ∷ []) ts u has)
  where
    only : Contains (t ∷ []) u → t ≡ u
    only (zero, lt, is) = is
    only (suc k, lt, is) = absurd (omega (arith, lt))

-- a tuple that stands before another is not the first of a list that has it
not_before : (x y : Tuple) (ys : List Tuple) → AreAscending (y ∷ ys) → Contains (y ∷ ys) x → tuple_lt x y ≡ true → ⊥
not_before x y ys asc has lt = ⊎_elim
    (λ same. true≢false (sym lt ∙ ap (λ z. tuple_lt z y) (sym same) ∙ tuple_lt_irrefl y))
    (λ rest. true≢false (sym (All-contains (λ u. tuple_lt y u ≡ true) ys x (all_behind y ys asc) rest) ∙ tuple_lt_asymm x y lt))
    (among_rest y x ys has)

-- lists that ascend and have the same tuples begin with the same one
same_first : (x y : Tuple) (xs ys : List Tuple) → AreAscending (x ∷ xs) → AreAscending (y ∷ ys) → Contains (y ∷ ys) x → Contains (x ∷ xs) y → x ≡ y
same_first x y xs ys ascx ascy there back = ⊎_elim
    (λ lt. absurd (not_before x y ys ascy there lt))
    (λ more. ⊎_elim (λ same. same) (λ gt. absurd (not_before y x xs ascx back gt)) more)
    (tuple_lt_total x y)

-- what both lists have after the same first tuple
rest_has : (x y : Tuple) (xs ys : List Tuple) → AreAscending (x ∷ xs) → x ≡ y → ((t : Tuple) → Contains (x ∷ xs) t → Contains (y ∷ ys) t) → (t : Tuple) → Contains xs t → Contains ys t
rest_has x y xs ys asc same there t has = ⊎_elim
    (λ is. absurd (true≢false (sym (All-contains (λ u. tuple_lt x u ≡ true) xs t (all_behind x xs asc) has) ∙ ap (tuple_lt x) (sym is) ∙ ap (tuple_lt x) (sym same) ∙ tuple_lt_irrefl x)))
    (λ rest. rest)
    (among_rest y t ys (there t (Contains-append_right (x ∷ []) xs t has)))

same_list : (xs ys : List Tuple) → AreAscending xs → AreAscending ys → ((t : Tuple) → Contains xs t → Contains ys t) → ((t : Tuple) → Contains ys t → Contains xs t) → xs ≡ ys
same_list [] [] ascx ascy there back = refl
same_list [] (y ∷ ys) ascx ascy there back = absurd (let c = back y (has_first y ys) in omega (arith, c.1))
same_list (x ∷ xs) [] ascx ascy there back = absurd (let c = there x (has_first x xs) in omega (arith, c.1))
same_list (x ∷ xs) (y ∷ ys) ascx ascy there back =
    let same = same_first x y xs ys ascx ascy (there x (has_first x xs)) (back y (has_first y ys)) in
    let rest = same_list xs ys (rest_ascends x xs ascx) (rest_ascends y ys ascy) (rest_has x y xs ys ascx same there) (rest_has y x ys xs ascy (sym same) back) in
    ap (λ z. z ∷ xs) same ∙ ap (λ l. y ∷ l) rest

pub selections_are_one : (there : Tuple → Bool) (q : Tupleset) (rows others : List Tuple) → IsSelection there q rows → IsSelection there q others → rows ≡ others
selections_are_one there q rows others one two = same_list rows others one.ascending two.ascending
    (λ t has. (two.exact t).1 ((one.exact t).0 has))
    (λ t has. (one.exact t).1 ((two.exact t).0 has))
