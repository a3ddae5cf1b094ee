-- Two lists with the same versions, one of which rises within each tuple, and the other is sorted: they are alike.
use Rattle.std.proofs.Common.{◌≡◌, ◌⊎◌, inl, inr, ⊎_elim, ◌≤◌, ◌<◌, ◌+◌, ◌==◌, ◌&&◌, ℕ, zero, suc, Bool, true, false, cond, eq-eqb, filter, sum_by, slice_index_or, List, [], ◌∷◌, Contains, length, refl, sym, ◌∙◌, ap, subst, arith}
use Rattle.std.specs.List.{AllByRecursion}
use Rattle.std.specs.List.Sorted.{IsPermutation, IsSorted}
use Rattle.std.specs.Ordering.{is_lt, nat_cmp, ordering_then}
use Rattle.std.specs.declared.cmp.Ordering.{Ordering}
use Rattle.std.proofs.lemmas.Bool.{cases_Bool, eqb-true}
use Rattle.std.proofs.lemmas.Cmp.{tied_itself}
use Rattle.std.proofs.lemmas.List.Sorted.{Contains-permutation, IsPermutation-sym, sum_by-IsPermutation}
use Rattle.std.proofs.lemmas.List.Sums.{sum_by-cons}
use Rattle.std.proofs.lemmas.Map.Keys.{ge_from_not_lt}
use Rattle.reshard_laws.proofs.Words.{AreAlike, of_tuple, RisesFrom, Tuple, tuple_of, tuple_same, Version}
use Rattle.tuples.specs.Order.{tuple_cmp, tuple_eq}
use Rattle.tuples.proofs.Ordered.{tuple_total}
use Rattle.versions.specs.Rows.{version_cmp}
use Rattle.reshard.proofs.Ranked.{Ranked, ranked, ranked_filter}

-- each place is above the one before
abbrev pub Strict : ℕ → List Version → Type 0
Strict n [] = Unit {0}
Strict n (v ∷ vs) = (n < v.place) × Strict v.place vs

-- the version stands in the list
abbrev Has : List Version → Version → Type 0
Has [] v = ⊥
Has (u ∷ us) v = (u ≡ v) ⊎ Has us v

-- how many stand at a place
abbrev count_at : ℕ → List Version → ℕ
count_at n [] = 0
count_at n (v ∷ vs) = cond (v.place == n) (suc (count_at n vs)) (count_at n vs)

pub strict_weaker : (n m : ℕ) (vs : List Version) → n ≤ m → Strict m vs → Strict n vs
strict_weaker n m [] low strict = tt
strict_weaker n m (v ∷ vs) low strict = ((let a = strict.0 in omega (arith, low, a)), strict.1)

pub strict_filter : (p : Version → Bool) (n : ℕ) (vs : List Version) → Strict n vs → Strict n (filter p vs)
strict_filter p n [] strict = tt
strict_filter p n (v ∷ vs) strict = ⊎_elim
    (λ here. rw here (strict.0, strict_filter p v.place vs strict.1))
    (λ past. rw past (strict_weaker n v.place (filter p vs) (let a = strict.0 in omega (arith, a)) (strict_filter p v.place vs strict.1)))
    (cases_Bool (p v))

strict_above : (n : ℕ) (vs : List Version) (v : Version) → Strict n vs → Has vs v → n < v.place
strict_above n [] v strict has = absurd has
strict_above n (u ∷ vs) v strict (inl same) = subst (λ (w : Version). n < w.place) same strict.0
strict_above n (u ∷ vs) v strict (inr later) = let a = strict.0 in let b = strict_above u.place vs v strict.1 later in omega (arith, a, b)

-- ---- counts

other_place : (n m : ℕ) → (n ≡ m → ⊥) → (n == m) ≡ false
other_place n m ne = ⊎_elim (λ same. absurd (ne (eqb-true n m same))) (λ other. other) (cases_Bool (n == m))

none_below : (n m : ℕ) (vs : List Version) → m ≤ n → Strict n vs → count_at m vs ≡ 0
none_below n m [] low strict = refl
none_below n m (v ∷ vs) low strict =
    let a = strict.0 in
    rw (other_place v.place m (λ same. omega (arith, same, a, low))) (none_below v.place m vs (omega (arith, a, low)) strict.1)

none_beneath : (n m : ℕ) (vs : List Version) → m < n → RisesFrom n vs → count_at m vs ≡ 0
none_beneath n m [] low rises = refl
none_beneath n m (v ∷ vs) low rises =
    let a = rises.0 in
    rw (other_place v.place m (λ same. omega (arith, same, a, low))) (none_beneath v.place m vs (omega (arith, a, low)) rises.1)

counts_one : (v : Version) (vs : List Version) → Has vs v → 1 ≤ count_at v.place vs
counts_one v [] has = absurd has
counts_one v (u ∷ vs) (inl same) =
    let here : (u.place == v.place) ≡ true = eq-eqb u.place v.place (ap (λ (w : Version). w.place) same) in
    rw here (omega arith)
counts_one v (u ∷ vs) (inr later) =
    let rest = counts_one v vs later in
    ⊎_elim (λ here. rw here (omega (arith, rest))) (λ other. rw other rest) (cases_Bool (u.place == v.place))

-- ---- two lists

less_one : (c : Bool) (x y : ℕ) → cond c (suc x) x ≡ cond c (suc y) y → x ≡ y
less_one true x y is = omega (arith, is)
less_one false x y is = is

-- what is so of two lists that begin with the same is so of the rest
same_rest : (n : ℕ) (a b : Version) (xs ys : List Version) → Strict n (a ∷ xs) → ((k : ℕ) → count_at k (b ∷ ys) ≡ count_at k (a ∷ xs)) → ((v : Version) → Has (b ∷ ys) v → Has (a ∷ xs) v) → a ≡ b
    → ((k : ℕ) → count_at k ys ≡ count_at k xs) × ((v : Version) → Has ys v → Has xs v)
same_rest n a b xs ys strict counts has same =
    let rest : (k : ℕ) → count_at k ys ≡ count_at k xs = λ k.
    let both : cond (a.place == k) (suc (count_at k ys)) (count_at k ys) ≡ cond (a.place == k) (suc (count_at k xs)) (count_at k xs) =
    subst (λ (w : Version). cond (w.place == k) (suc (count_at k ys)) (count_at k ys) ≡ count_at k (a ∷ xs)) (sym same) (counts k) in
    less_one (a.place == k) (count_at k ys) (count_at k xs) both in
    let none = none_below a.place a.place xs (omega arith) strict.1 in (
      rest,
      λ v later. ⊎_elim
          (λ again. let one = subst (λ (w : Version). 1 ≤ count_at w.place ys) (sym again) (counts_one v ys later) in absurd (omega (arith, one, none, rest a.place)))
          (λ there. there)
          (has v (inr later)),
    )

-- one that rises strictly, and one that does not fall and has no other versions, are one if as many stand at each place
same_list : (n m : ℕ) (xs ys : List Version) → Strict n xs → RisesFrom m ys → ((k : ℕ) → count_at k ys ≡ count_at k xs) → ((v : Version) → Has ys v → Has xs v) → ys ≡ xs
same_list n m [] [] strict rises counts has = refl
same_list n m [] (b ∷ ys) strict rises counts has = absurd (has b (inl refl))
same_list n m (a ∷ xs) [] strict rises counts has =
    let one = counts_one a (a ∷ xs) (inl refl) in
    let none = counts a.place in
    absurd (omega (arith, one, none))
same_list n m (a ∷ xs) (b ∷ ys) strict rises counts has = ⊎_elim
    (λ same.
    let rest = same_rest n a b xs ys strict counts has same in
    ap (λ (w : Version). w ∷ ys) (sym same) ∙ ap (λ (l : List Version). a ∷ l) (same_list a.place b.place xs ys strict.1 rises.1 rest.0 rest.1))
    (λ later.
    let above = strict_above a.place xs b strict.1 later in
    let one = counts_one a (a ∷ xs) (inl refl) in
    let none = none_beneath b.place a.place (b ∷ ys) above (omega arith, rises.1) in
    absurd (omega (arith, one, none, counts a.place)))
    (has b (inl refl))

-- ---- of one tuple, in lists with the same versions

has_of : (xs : List Version) (k : ℕ) (v : Version) → k < length xs → slice_index_or xs k v ≡ v → Has xs v
has_of [] k v lt is = absurd (omega (arith, lt))
has_of (x ∷ xs) zero v lt is = inl is
has_of (x ∷ xs) (suc k) v lt is = inr (has_of xs k v (omega (arith, lt)) is)

contains_of : (xs : List Version) (v : Version) → Has xs v → Contains xs v
contains_of [] v has = absurd has
contains_of (x ∷ xs) v (inl is) = (0, omega arith, is)
contains_of (x ∷ xs) v (inr has) = let c = contains_of xs v has in (suc c.0, (let a = c.1 in omega (arith, a)), c.2)

module _ (t : Tuple) where
  abbrev is_of : Version → Bool
  is_of v = tuple_eq t (tuple_of v.change)

  has_first : (x : Version) (xs : List Version) (v : Version) → (Has (of_tuple t xs) v → Has xs v × (is_of v ≡ true)) → is_of x ≡ true → Has (x ∷ of_tuple t xs) v → Has (x ∷ xs) v × (is_of v ≡ true)
  has_first x xs v rest here (inl same) = (inl same, subst (λ (w : Version). is_of w ≡ true) same here)
  has_first x xs v rest here (inr later) = let r = rest later in (inr r.0, r.1)

  has_in : (xs : List Version) (v : Version) → Has (of_tuple t xs) v → Has xs v × (is_of v ≡ true)
  has_in [] v has = absurd has
  has_in (x ∷ xs) v has = ⊎_elim
      (λ here. has_first x xs v (λ later. has_in xs v later) here (subst (λ (b : Bool). Has (cond b (x ∷ of_tuple t xs) (of_tuple t xs)) v) here has))
      (λ other. let r = has_in xs v (subst (λ (b : Bool). Has (cond b (x ∷ of_tuple t xs) (of_tuple t xs)) v) other has) in (inr r.0, r.1))
      (cases_Bool (is_of x))

  has_out : (xs : List Version) (v : Version) → Has xs v → is_of v ≡ true → Has (of_tuple t xs) v
  has_out [] v has is = absurd has
  has_out (x ∷ xs) v (inl same) is = rw (ap is_of same ∙ is) (inl same)
  has_out (x ∷ xs) v (inr later) is = ⊎_elim
      (λ here. rw here (inr (has_out xs v later is)))
      (λ other. rw other (has_out xs v later is))
      (cases_Bool (is_of x))

  abbrev one_at : ℕ → Version → ℕ
  one_at n v = cond (is_of v && (v.place == n)) 1 0

  counted : (n : ℕ) (xs : List Version) → sum_by (one_at n) xs ≡ count_at n (of_tuple t xs)
  counted n [] = refl
  counted n (x ∷ xs) =
      sum_by-cons (one_at n) x xs ∙ ap (λ (k : ℕ). one_at n x + k) (counted n xs) ∙ by_head (is_of x) (x.place == n) refl refl
    where
      by_head : (a b : Bool) → is_of x ≡ a → (x.place == n) ≡ b → one_at n x + count_at n (of_tuple t xs) ≡ count_at n (of_tuple t (x ∷ xs))
      by_head true true is at = rw (is, at) (omega arith)
      by_head true false is at = rw (is, at) (omega arith)
      by_head false b is at = rw is (omega arith)

  -- ---- in order

  no_lower : (v u : Version) → is_of v ≡ true → is_of u ≡ true → is_lt (version_cmp u v) ≡ false → v.place ≤ u.place
  no_lower v u own other is =
      let same_v : tuple_of v.change ≡ t = sym (tuple_same t (tuple_of v.change) own) in
      let same_u : tuple_of u.change ≡ t = sym (tuple_same t (tuple_of u.change) other) in
      let tied : version_cmp u v ≡ nat_cmp u.place v.place =
      ap (λ (x : Tuple). ordering_then (tuple_cmp x (tuple_of v.change)) (nat_cmp u.place v.place)) same_u
      ∙ ap (λ (x : Tuple). ordering_then (tuple_cmp t x) (nat_cmp u.place v.place)) same_v
      ∙ ap (λ (o : Ordering). ordering_then o (nat_cmp u.place v.place)) (tied_itself tuple_total t) in
      ge_from_not_lt u.place v.place (ap is_lt (sym tied) ∙ is)

  no_lower_later : (x : Version) (ys : List Version) → is_of x ≡ true → AllByRecursion (λ (v : Version). is_of v ≡ true) ys → AllByRecursion (λ (u : Version). is_lt (version_cmp u x) ≡ false) ys
      → AllByRecursion (λ (v : Version). x.place ≤ v.place) ys
  no_lower_later x [] is own ranks = tt
  no_lower_later x (y ∷ ys) is own ranks = (no_lower x y is own.0 ranks.0, no_lower_later x ys is own.1 ranks.1)

  rises_ranked : (n : ℕ) (xs : List Version) → AllByRecursion (λ (v : Version). n ≤ v.place) xs → AllByRecursion (λ (v : Version). is_of v ≡ true) xs → Ranked xs → RisesFrom n xs
  rises_ranked n [] low own r = tt
  rises_ranked n (x ∷ xs) low own r = (low.0, rises_ranked x.place xs (no_lower_later x xs own.0 own.1 r.0) own.1 r.1)

  all_own : (xs : List Version) → AllByRecursion (λ (v : Version). is_of v ≡ true) (of_tuple t xs)
  all_own [] = tt
  all_own (x ∷ xs) = ⊎_elim (λ here. rw here (here, all_own xs)) (λ other. rw other (all_own xs)) (cases_Bool (is_of x))

  all_above : (xs : List Version) → AllByRecursion (λ (v : Version). 0 ≤ v.place) xs
  all_above [] = tt
  all_above (x ∷ xs) = (omega arith, all_above xs)

  pub same_of_tuple : (vs us : List Version) → IsPermutation vs us → IsSorted version_cmp us → Strict 0 (of_tuple t vs) → of_tuple t us ≡ of_tuple t vs
  same_of_tuple vs us same sorted strict =
      same_list 0 0 (of_tuple t vs) (of_tuple t us) strict
      (rises_ranked 0 (of_tuple t us) (all_above (of_tuple t us)) (all_own us) (ranked_filter is_of us (ranked us sorted)))
      (λ k. sym (counted k us) ∙ sum_by-IsPermutation (one_at k) vs us same ∙ counted k vs)
      (λ v has.
      let r = has_in us v has in
      let c = Contains-permutation us vs v (IsPermutation-sym vs us same) (contains_of us v r.0) in
      has_out vs v (has_of vs c.0 v c.1 c.2) r.1)

-- Versions that rise strictly within each tuple, and the same ones sorted.
pub sorted_alike : (vs us : List Version) → IsPermutation vs us → IsSorted version_cmp us → ((t : Tuple) → Strict 0 (of_tuple t vs)) → AreAlike us vs
sorted_alike vs us same sorted strict = record { each = λ t. same_of_tuple t vs us same sorted (strict t) }
