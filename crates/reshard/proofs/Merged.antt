-- What is merged has each version of the lists; it is in order if they are, and so are those that pass a test.
use Rattle.std.proofs.Common.{◌≡◌, ◌++◌, Bool, true, true≢false, false, filter, map, List, [], ◌∷◌, ⊎_elim, refl, sym, ◌∙◌, ap, subst}
use Rattle.std.specs.List.{AllByRecursion}
use Rattle.std.specs.List.Sorted.{IsPermutation, IsSorted}
use Rattle.std.proofs.lemmas.Bool.{cases_Bool}
use Rattle.std.proofs.lemmas.List.Sorted.{IsPermutation-append, IsPermutation-cons, IsPermutation-middle, IsPermutation-refl, IsPermutation-trans}
use Rattle.replay.proofs.Doubting.{each_filter}
use Rattle.tuples.specs.declared.version.Version.{Version}
use Rattle.tuples.proofs.Lists.{each_weaker}
use Rattle.versions.specs.Rows.{version_cmp}
use Rattle.versions.proofs.Listed.{version_ranks}
use Rattle.reshard.specs.Merging.{all_of, into, is_below, merge, merged}
use Rattle.reshard.proofs.Ranked.{NoneBelow, Ranked, ranked, sorted}

pub merge_none : (xs : List Version) → merge xs [] ≡ xs
merge_none [] = refl
merge_none (x ∷ xs) = ap (λ (l : List Version). x ∷ l) (merge_none xs)

-- ---- the same versions

into_same : (x : Version) (xs ys : List Version) → ((zs : List Version) → IsPermutation (xs ++ zs) (merge xs zs)) → IsPermutation (x ∷ (xs ++ ys)) (into x (merge xs) ys)
into_same x xs [] rest = IsPermutation-cons x _ _ (rest [])
into_same x xs (y ∷ ys) rest = ⊎_elim
    (λ lower. rw lower (IsPermutation-trans _ _ _ (IsPermutation-middle (x ∷ xs) y ys) (IsPermutation-cons y _ _ (into_same x xs ys rest))))
    (λ not. rw not (IsPermutation-cons x _ _ (rest (y ∷ ys))))
    (cases_Bool (is_below y x))

merge_same : (xs ys : List Version) → IsPermutation (xs ++ ys) (merge xs ys)
merge_same [] ys = IsPermutation-refl ys
merge_same (x ∷ xs) ys = into_same x xs ys (merge_same xs)

pub merged_same : (lists : List (List Version)) → IsPermutation (all_of lists) (merged lists)
merged_same [] = IsPermutation-refl []
merged_same (l ∷ lists) = IsPermutation-trans _ _ _ (IsPermutation-append _ _ _ _ (IsPermutation-refl l) (merged_same lists)) (merge_same l (merged lists))

-- ---- in order

into_each : (P : Version → Type 0) (x : Version) (xs ys : List Version) → P x → ((zs : List Version) → AllByRecursion P zs → AllByRecursion P (merge xs zs)) → AllByRecursion P ys → AllByRecursion P (into x (merge xs) ys)
into_each P x xs [] here rest each = (here, rest [] tt)
into_each P x xs (y ∷ ys) here rest each = ⊎_elim
    (λ lower. rw lower (each.0, into_each P x xs ys here rest each.1))
    (λ not. rw not (here, rest (y ∷ ys) each))
    (cases_Bool (is_below y x))

merge_each : (P : Version → Type 0) (xs ys : List Version) → AllByRecursion P xs → AllByRecursion P ys → AllByRecursion P (merge xs ys)
merge_each P [] ys one other = other
merge_each P (x ∷ xs) ys one other = into_each P x xs ys one.0 (λ zs each. merge_each P xs zs one.1 each) other

-- if none is below x, none is below what x is not below
none_below : (x y : Version) (xs : List Version) → is_below x y ≡ false → NoneBelow x xs → NoneBelow y xs
none_below x y xs high none = each_weaker (λ (u : Version). is_below u x ≡ false) (λ (u : Version). is_below u y ≡ false) (λ u is. version_ranks.chain u x y is high) xs none

into_ranked : (x : Version) (xs ys : List Version) → NoneBelow x xs → ((zs : List Version) → Ranked zs → Ranked (merge xs zs)) → Ranked ys → Ranked xs → Ranked (into x (merge xs) ys)
into_ranked x xs [] none rest r own = (subst (NoneBelow x) (sym (merge_none xs)) none, rest [] tt)
into_ranked x xs (y ∷ ys) none rest r own = ⊎_elim
    (λ lower. rw lower (
      (let high = version_ranks.one_way y x lower in merge_each (λ (u : Version). is_below u y ≡ false) (x ∷ xs) ys (high, none_below x y xs high none) r.0),
      into_ranked x xs ys none rest r.1 own,
    ))
    (λ not. rw not (merge_each (λ (u : Version). is_below u x ≡ false) xs (y ∷ ys) none (not, none_below y x ys not r.0), rest (y ∷ ys) r))
    (cases_Bool (is_below y x))

merge_ranked : (xs ys : List Version) → Ranked xs → Ranked ys → Ranked (merge xs ys)
merge_ranked [] ys one other = other
merge_ranked (x ∷ xs) ys one other = into_ranked x xs ys one.0 (λ zs r. merge_ranked xs zs one.1 r) other one.1

merged_ranked : (lists : List (List Version)) → AllByRecursion (IsSorted version_cmp) lists → Ranked (merged lists)
merged_ranked [] each = tt
merged_ranked (l ∷ lists) each = merge_ranked l (merged lists) (ranked l each.0) (merged_ranked lists each.1)

pub merged_sorted : (lists : List (List Version)) → AllByRecursion (IsSorted version_cmp) lists → IsSorted version_cmp (merged lists)
merged_sorted lists each = sorted (merged lists) (merged_ranked lists each)

-- ---- those that pass a test

-- each of these is above the version
abbrev AllAbove : Version → List Version → Type 0
AllAbove y = AllByRecursion (λ (u : Version). is_below y u ≡ true)

all_above : (x y : Version) (xs : List Version) → is_below y x ≡ true → NoneBelow x xs → AllAbove y xs
all_above x y xs lower none = each_weaker (λ (u : Version). is_below u x ≡ false) (λ (u : Version). is_below y u ≡ true)
    (λ u is. ⊎_elim (λ yes. yes) (λ no. absurd (true≢false (sym lower ∙ version_ranks.chain y u x no is))) (cases_Bool (is_below y u)))
    xs none

-- the lower one comes first, of whichever list it is
second_first : (xs ys : List Version) (y : Version) → AllAbove y xs → merge xs (y ∷ ys) ≡ y ∷ merge xs ys
second_first [] ys y above = refl
second_first (x ∷ xs) ys y above = rw above.0 refl

first_first : (xs ys : List Version) (x : Version) → NoneBelow x ys → merge (x ∷ xs) ys ≡ x ∷ merge xs ys
first_first xs [] x none = refl
first_first xs (y ∷ ys) x none = rw none.0 refl

module _ (p : Version → Bool) where
  into_passed : (x : Version) (xs ys : List Version) → NoneBelow x xs → ((zs : List Version) → Ranked zs → filter p (merge xs zs) ≡ merge (filter p xs) (filter p zs)) → Ranked ys
      → filter p (into x (merge xs) ys) ≡ merge (filter p (x ∷ xs)) (filter p ys)
  into_passed x xs [] none rest r = ap (λ (l : List Version). filter p (x ∷ l)) (merge_none xs) ∙ sym (merge_none (filter p (x ∷ xs)))
  into_passed x xs (y ∷ ys) none rest r = ⊎_elim
      (λ lower. rw lower (
      let later = into_passed x xs ys none rest r.1 in
      let above : AllAbove y (filter p (x ∷ xs)) = each_filter (λ (u : Version). is_below y u ≡ true) p (x ∷ xs) (lower, all_above x y xs lower none) in
      ⊎_elim
      (λ here. rw here (ap (λ (l : List Version). y ∷ l) later ∙ sym (second_first (filter p (x ∷ xs)) (filter p ys) y above)))
      (λ past. rw past later)
      (cases_Bool (p y))))
      (λ not. rw not (
      let later = rest (y ∷ ys) r in
      let high : NoneBelow x (filter p (y ∷ ys)) = each_filter (λ (u : Version). is_below u x ≡ false) p (y ∷ ys) (not, none_below y x ys not r.0) in
      ⊎_elim
      (λ here. rw here (ap (λ (l : List Version). x ∷ l) later ∙ sym (first_first (filter p xs) (filter p (y ∷ ys)) x high)))
      (λ past. rw past later)
      (cases_Bool (p x))))
      (cases_Bool (is_below y x))

  merge_passed : (xs ys : List Version) → Ranked xs → Ranked ys → filter p (merge xs ys) ≡ merge (filter p xs) (filter p ys)
  merge_passed [] ys one other = refl
  merge_passed (x ∷ xs) ys one other = into_passed x xs ys one.0 (λ zs r. merge_passed xs zs one.1 r) other

  pub merged_passed : (lists : List (List Version)) → AllByRecursion (IsSorted version_cmp) lists → merged (map (filter p) lists) ≡ filter p (merged lists)
  merged_passed [] each = refl
  merged_passed (l ∷ lists) each = ap (merge (filter p l)) (merged_passed lists each.1) ∙ sym (merge_passed l (merged lists) (ranked l each.0) (merged_ranked lists each.1))
