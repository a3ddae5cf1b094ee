-- How many versions are looked at.
use Rattle.std.proofs.Common.{◌≡◌, ◌≤◌, ℕ, suc, ◌+◌, Bool, true, false, ◌&&◌, cond, List, [], ◌∷◌, ◌++◌, length, filter, inl, inr, refl, sym, ap, subst, ◌∙◌, arith}
use Rattle.std.specs.List.{AllByRecursion}
use Rattle.std.specs.List.Sorted.{IsStrictlySortedBy}
use Rattle.std.specs.Ordering.{is_eq}
use Rattle.std.specs.declared.cmp.Ordering.TheVariants.{Less}
use Rattle.std.proofs.lemmas.Bool.{cases_Bool}
use Rattle.std.proofs.lemmas.List.{length-append, length-map}
use Rattle.std.proofs.lemmas.List.Elements.{filter-append}
use Rattle.std.proofs.lemmas.List.Sums.{sum_by-cons, sum_by_push}
use Rattle.tuples.specs.declared.tuple.Tuple.{Tuple}
use Rattle.tuples.specs.declared.version.Version.{Version}
use Rattle.tuples.specs.Changes.{tuple_of}
use Rattle.tuples.specs.Order.{tuple_eq}
use Rattle.tuples.proofs.Ordered.{tuple_eq_symm}
use Rattle.tuples.proofs.Same.{tuple_same}
use Rattle.versions.specs.Alike.{of_tuple}
use Rattle.tuples.specs.ByUser.{by_user_cmp}
use Rattle.versions.specs.Budget.{weight, weights}
use Rattle.versions.specs.Index.{count_of}
use Rattle.versions.specs.Rows.{listed, version_of, versions_of}
use Rattle.versions.specs.declared.history.Row.{Row}
use Rattle.versions.proofs.Histories.{tuple_of_change}
use Rattle.versions.proofs.Index.{by_user_tie}
use Rattle.versions.proofs.Tables.{Entries}

-- ---- entry by entry

own_count : (q : Tuple → Bool) (t : Tuple) (rows : List Row) → count_of q (versions_of t rows) ≡ cond (q t) (length rows) 0
own_count q t [] = sym (none (q t))
  where
    none : (b : Bool) → cond {A = ℕ} b 0 0 ≡ 0
    none true = refl
    none false = refl
own_count q t (r ∷ rows) = elim (cases_Bool (q t)) [
  | inl is ↦ rw (ap q (tuple_of_change t r.is_touch)) (rw is (ap (λ (n : ℕ). suc n) (own_count q t rows ∙ ap (λ (b : Bool). cond b (length rows) 0) is)))
  | inr apart ↦ rw (ap q (tuple_of_change t r.is_touch)) (rw apart (own_count q t rows ∙ ap (λ (b : Bool). cond b (length rows) 0) apart))
]

pub count_first : (q : Tuple → Bool) (t : Tuple) (h : List Row) (es : Entries) → count_of q (listed ((t, h) ∷ es)) ≡ cond (q t) (length h) 0 + count_of q (listed es)
count_first q t h es =
    ap (λ (l : List Version). length l) (filter-append _ (versions_of t h) (listed es))
    ∙ length-append (filter (λ (v : Version). q (tuple_of v.change)) (versions_of t h)) (filter (λ (v : Version). q (tuple_of v.change)) (listed es))
    ∙ ap (λ (n : ℕ). n + count_of q (listed es)) (own_count q t h)

-- entries that are left out are not looked at
pub count_fewer : (q p : Tuple → Bool) (es : Entries) → count_of q (listed (filter (λ e. p e.0) es)) ≤ count_of q (listed es)
count_fewer q p [] = omega arith
count_fewer q p ((t, h) ∷ es) = elim (cases_Bool (p t)) [
  | inl is ↦
      let rest = count_fewer q p es in
      let left = count_first q t h (filter (λ e. p e.0) es) in
      let right = count_first q t h es in
      rw is (rw left (rw right (omega (arith, rest))))
  | inr apart ↦
      let rest = count_fewer q p es in
      let right = count_first q t h es in
      rw apart (rw right (omega (arith, rest)))
]

-- ---- tuple by tuple

-- of each of these tuples that passes a test, its versions
abbrev pub sum_of : (Tuple → Bool) → List Version → List Tuple → ℕ
sum_of q vs [] = 0
sum_of q vs (u ∷ us) = cond (q u) (length (of_tuple u vs)) 0 + sum_of q vs us

pub sum_fewer : (q p : Tuple → Bool) (vs : List Version) (us : List Tuple) → sum_of q vs (filter p us) ≤ sum_of q vs us
sum_fewer q p vs [] = omega arith
sum_fewer q p vs (u ∷ us) = elim (cases_Bool (p u)) [
  | inl is ↦ let rest = sum_fewer q p vs us in rw is (omega (arith, rest))
  | inr apart ↦ let rest = sum_fewer q p vs us in rw apart (omega (arith, rest))
]

-- how many of them are this one
hits : (Tuple → Bool) → Tuple → List Tuple → ℕ
hits q t [] = 0
hits q t (u ∷ us) = cond (q u && tuple_eq u t) 1 0 + hits q t us

one_more : (q : Tuple → Bool) (v : Version) (vs : List Version) (us : List Tuple) → sum_of q (v ∷ vs) us ≡ hits q (tuple_of v.change) us + sum_of q vs us
unfolding hits
one_more q v vs [] = refl
one_more q v vs (u ∷ us) =
    let rest = one_more q v vs us in
    let here = grown (q u) (tuple_eq u (tuple_of v.change)) (of_tuple u vs) in
    omega (arith, rest, here)
  where
    grown : (a b : Bool) (own : List Version) → cond a (length (cond b (v ∷ own) own)) 0 ≡ cond (a && b) 1 0 + cond a (length own) 0
    grown true true own = omega arith
    grown true false own = omega arith
    grown false b own = omega arith

none_hit : (q : Tuple → Bool) (t u : Tuple) (us : List Tuple) → tuple_eq u t ≡ true → AllByRecursion (λ y. by_user_cmp u y ≡ Less) us → hits q t us ≡ 0
unfolding hits
none_hit q t u [] is above = refl
none_hit q t u (w ∷ us) is above =
    let apart : tuple_eq w t ≡ false = ap (tuple_eq w) (sym (tuple_same u t is)) ∙ behind u w above.0 in
    let rest = none_hit q t u us is above.1 in
    let first : (q w && tuple_eq w t) ≡ false = ap (λ (b : Bool). q w && b) apart ∙ and_false (q w) in
    rw first (omega (arith, rest))
  where
    and_false : (b : Bool) → (b && false) ≡ false
    and_false true = refl
    and_false false = refl

    behind : (u w : Tuple) → by_user_cmp u w ≡ Less → tuple_eq w u ≡ false
    behind u w less = tuple_eq_symm w u ∙ sym (by_user_tie u w) ∙ ap is_eq less

few_hits : (q : Tuple → Bool) (t : Tuple) (us : List Tuple) → IsStrictlySortedBy by_user_cmp us → hits q t us ≤ cond (q t) 1 0
unfolding IsStrictlySortedBy hits
few_hits q t [] sorted = omega arith
few_hits q t (u ∷ us) sorted = elim (cases_Bool (tuple_eq u t)) [
  | inl is ↦
      let none = none_hit q t u us is sorted.0 in
      let same : q u ≡ q t = ap q (tuple_same u t is) in
      rw is (rw none (rw same (once (q t))))
  | inr apart ↦
      let rest = few_hits q t us sorted.1 in
      let first : (q u && tuple_eq u t) ≡ false = ap (λ (b : Bool). q u && b) apart ∙ and_false (q u) in
      rw first (omega (arith, rest))
]
  where
    and_false : (b : Bool) → (b && false) ≡ false
    and_false true = refl
    and_false false = refl

    once : (b : Bool) → cond (b && true) 1 0 + 0 ≤ cond b 1 0
    once true = omega arith
    once false = omega arith

nothing : (q : Tuple → Bool) (us : List Tuple) → sum_of q [] us ≡ 0
nothing q [] = refl
nothing q (u ∷ us) = let rest = nothing q us in let first = zero (q u) in omega (arith, rest, first)
  where
    zero : (b : Bool) → cond {A = ℕ} b 0 0 ≡ 0
    zero true = refl
    zero false = refl

-- tuples that stand in order have no more versions than there are
pub sum_within : (q : Tuple → Bool) (us : List Tuple) (vs : List Version) → IsStrictlySortedBy by_user_cmp us → sum_of q vs us ≤ count_of q vs
sum_within q us [] sorted = let none = nothing q us in omega (arith, none)
sum_within q us (v ∷ vs) sorted = elim (cases_Bool (q (tuple_of v.change))) [
  | inl is ↦
      let rest = sum_within q us vs sorted in
      let more = one_more q v vs us in
      let few : hits q (tuple_of v.change) us ≤ 1 = subst (λ (b : Bool). hits q (tuple_of v.change) us ≤ cond b 1 0) is (few_hits q (tuple_of v.change) us sorted) in
      rw is (omega (arith, rest, more, few))
  | inr apart ↦
      let rest = sum_within q us vs sorted in
      let more = one_more q v vs us in
      let few : hits q (tuple_of v.change) us ≤ 0 = subst (λ (b : Bool). hits q (tuple_of v.change) us ≤ cond b 1 0) apart (few_hits q (tuple_of v.change) us sorted) in
      rw apart (omega (arith, rest, more, few))
]

-- the rows of a tuple are its versions
pub rows_count : (t : Tuple) (rows : List Row) (vs : List Version) → versions_of t rows ≡ of_tuple t vs → length rows ≡ length (of_tuple t vs)
rows_count t rows vs own = sym (length-map rows (version_of t)) ∙ ap (λ (l : List Version). length l) own

-- one entry of a walk that was looked at
pub looked : (q : Tuple → Bool) (t : Tuple) (h : List Row) (rest left : Entries) (steps old most : ℕ) → q t ≡ true → steps ≡ old + length h → left ≡ (t, h) ∷ rest → old + count_of q (listed left) ≤ most → steps + count_of q (listed rest) ≤ most
looked q t h rest left steps old most has more cut within =
    let first : count_of q (listed left) ≡ length h + count_of q (listed rest) = ap (λ (l : Entries). count_of q (listed l)) cut ∙ count_first q t h rest ∙ ap (λ (b : Bool). cond b (length h) 0 + count_of q (listed rest)) has in
    omega (arith, first, more, within)

-- one tuple of a walk whose rows were looked at, or were not
pub seen : (q : Tuple → Bool) (t : Tuple) (vs : List Version) (rest left : List Tuple) (steps old most : ℕ) → q t ≡ true → steps ≡ old + length (of_tuple t vs) → left ≡ t ∷ rest → old + sum_of q vs left ≤ most → steps + sum_of q vs rest ≤ most
seen q t vs rest left steps old most has more cut within =
    let first : sum_of q vs left ≡ length (of_tuple t vs) + sum_of q vs rest = ap (sum_of q vs) cut ∙ ap (λ (b : Bool). cond b (length (of_tuple t vs)) 0 + sum_of q vs rest) has in
    omega (arith, first, more, within)

pub unseen : (q : Tuple → Bool) (t : Tuple) (vs : List Version) (rest left : List Tuple) (old most : ℕ) → left ≡ t ∷ rest → old + sum_of q vs left ≤ most → old + sum_of q vs rest ≤ most
unseen q t vs rest left old most cut within =
    let first : sum_of q vs left ≡ cond (q t) (length (of_tuple t vs)) 0 + sum_of q vs rest = ap (sum_of q vs) cut in
    omega (arith, first, within)

pub within_most : (q : Tuple → Bool) (rest : Entries) (steps most : ℕ) → steps + count_of q (listed rest) ≤ most → steps ≤ most
within_most q rest steps most within = omega (arith, within)

pub sum_most : (q : Tuple → Bool) (vs : List Version) (us rest : List Tuple) (steps old : ℕ) → IsStrictlySortedBy by_user_cmp us → steps + sum_of q vs rest ≤ old + sum_of q vs us → steps ≤ old + count_of q vs
sum_most q vs us rest steps old sorted within = let few = sum_within q us vs sorted in omega (arith, within, few)

pub rows_seen : {rows : List Row} (steps old : ℕ) (own : List Row) → own ≡ rows → steps ≡ old + length rows → steps ≡ old + length own
rows_seen steps old own same more = more ∙ ap (λ (l : List Row). old + length l) (sym same)

-- ---- what copies count for

pub counted_none : (items : List Tuple) (b : ℕ) → items ≡ [] → b + weights items ≡ b
counted_none items b none =
    let zero : weights items ≡ 0 = ap (λ (l : List Tuple). weights l) none in
    omega (arith, zero)

-- one tuple more, of what was left
pub counted_more : (items new : List Tuple) (t : Tuple) (before left all : ℕ) → new ≡ items ++ t ∷ [] → left + weight t ≡ before → before + weights items ≡ all → left + weights new ≡ all
counted_more items new t before left all grown took was =
    let sum : weights new ≡ weights items + weight t = ap (λ (l : List Tuple). weights l) grown ∙ sum_by_push weight items t in
    omega (arith, sum, took, was)

pub counted_first : (items new : List Tuple) (t : Tuple) (before left : ℕ) → new ≡ t ∷ items → left + weight t ≡ before → left + weights new ≡ before + weights items
counted_first items new t before left grown took =
    let sum : weights new ≡ weight t + weights items = ap (λ (l : List Tuple). weights l) grown ∙ sum_by-cons weight t items in
    omega (arith, sum, took)
