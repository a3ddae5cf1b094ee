-- The tuples of a table that are there, read as a selection.
use Rattle.std.proofs.Common.{◌≡◌, ℕ, Bool, true, false, cond, ◌&&◌, ◌||◌, List, [], ◌∷◌, filter, None, Some, inl, inr, refl, sym, ap, subst, ◌∙◌}
use Rattle.std.specs.List.{AllByRecursion, list_any}
use Rattle.std.specs.List.Sorted.{IsStrictlySortedBy}
use Rattle.std.specs.Map.{keys_of}
use Rattle.std.specs.declared.cmp.Ordering.TheVariants.{Less}
use Rattle.std.specs.Ordering.{is_le}
use Rattle.std.proofs.lemmas.Bool.{cases_Bool}
use Rattle.std.proofs.lemmas.List.Kept.{IsStrictlySortedBy-filter}
use Rattle.std.proofs.lemmas.Map.Views.{Contains-from_any, list_any-from_Contains}
use Rattle.std.proofs.Math.Bool.{and-true, and-false}
use Rattle.tuples.specs.declared.tuple.Tuple.{Tuple}
use Rattle.tuples.specs.declared.version.Version.{Version}
use Rattle.versions.specs.Alike.{of_tuple}
use Rattle.tuples.specs.Texts.{IsTuple}
use Rattle.tuples.specs.Order.{tuple_cmp, tuple_eq}
use Rattle.tuples.specs.Reads.{AreAscending}
use Rattle.tuples.specs.Versions.{there_at}
use Rattle.tuples.proofs.Ordered.{tuple_lt_apart}
use Rattle.versions.proofs.Tied.{same_tie}
use Rattle.tuples.proofs.Same.{tuple_same}
use Rattle.tuples.proofs.Options.{same_tests}
use Rattle.tuples.proofs.Named.{tuple_equivalence}
use Rattle.versions.specs.Rows.{IsFirst, IsPicked, found, listed, rows_in, versions_of}
use Rattle.versions.specs.declared.history.Row.{Row}
use Rattle.versions.proofs.Alike.{there_at_own}
use Rattle.versions.proofs.Tables.{AreSorted, Entries, before, of_listed}

-- the tuples of the entries that are there and pass a test
abbrev pub kept_of : ℕ → (Tuple → Bool) → Entries → List Tuple
kept_of place q [] = []
kept_of place q (e ∷ es) = cond (q e.0 && there_at (versions_of e.0 e.1) place e.0) (e.0 ∷ kept_of place q es) (kept_of place q es)

up_from : (place : ℕ) (q : Tuple → Bool) (t : Tuple) (es : Entries) → AllByRecursion (λ y. tuple_cmp t y ≡ Less) (keys_of es) → AreSorted es → AreAscending (t ∷ kept_of place q es)
unfolding IsStrictlySortedBy
up_from place q t [] above sorted = tt
up_from place q t ((u, h) ∷ es) above sorted = elim (cases_Bool (q u && there_at (versions_of u h) place u)) [
  | inl is ↦ subst (λ (b : Bool). AreAscending (t ∷ cond b (u ∷ kept_of place q es) (kept_of place q es))) (sym is) (before t u above.0, up_from place q u es sorted.0 sorted.1)
  | inr not_kept ↦ subst (λ (b : Bool). AreAscending (t ∷ cond b (u ∷ kept_of place q es) (kept_of place q es))) (sym not_kept) (up_from place q t es above.1 sorted.1)
]

ascending : (place : ℕ) (q : Tuple → Bool) (es : Entries) → AreSorted es → AreAscending (kept_of place q es)
unfolding IsStrictlySortedBy
ascending place q [] sorted = tt
ascending place q ((u, h) ∷ es) sorted = elim (cases_Bool (q u && there_at (versions_of u h) place u)) [
  | inl is ↦ subst (λ (b : Bool). AreAscending (cond b (u ∷ kept_of place q es) (kept_of place q es))) (sym is) (up_from place q u es sorted.0 sorted.1)
  | inr not_kept ↦ subst (λ (b : Bool). AreAscending (cond b (u ∷ kept_of place q es) (kept_of place q es))) (sym not_kept) (ascending place q es sorted.1)
]

-- whether the tuple's own entry is there
unfoldable pub there_in : ℕ → Tuple → Entries → Bool
there_in place t es = there_at (versions_of t (rows_in (found t es))) place t

found_above : (t : Tuple) (es : Entries) → AllByRecursion (λ y. tuple_cmp t y ≡ Less) (keys_of es) → found t es ≡ None
found_above t [] above = refl
found_above t ((u, h) ∷ es) above = ap (λ (b : Bool). cond b (Some h) (found t es)) (same_tie t u ∙ tuple_lt_apart t u (before t u above.0)) ∙ found_above t es above.1

pub never : (place : ℕ) (t : Tuple) → there_at (versions_of t []) place t ≡ false
unfolding there_at
never place t = refl

skipped : (m : Bool) (t u : Tuple) (rest : List Tuple) → tuple_eq t u ≡ false → list_any (tuple_eq t) (cond m (u ∷ rest) rest) ≡ list_any (tuple_eq t) rest
skipped true t u rest apart = ap (λ (b : Bool). b || list_any (tuple_eq t) rest) apart
skipped false t u rest apart = refl

first : (m : Bool) (t u : Tuple) (rest : List Tuple) → tuple_eq t u ≡ true → list_any (tuple_eq t) rest ≡ false → list_any (tuple_eq t) (cond m (u ∷ rest) rest) ≡ m
first true t u rest is none = ap (λ (b : Bool). b || list_any (tuple_eq t) rest) is
first false t u rest is none = none

has_kept : (place : ℕ) (q : Tuple → Bool) (es : Entries) (t : Tuple) → AreSorted es → list_any (tuple_eq t) (kept_of place q es) ≡ (q t && there_in place t es)
unfolding IsStrictlySortedBy there_in
has_kept place q [] t sorted = sym (ap (λ (b : Bool). q t && b) (never place t) ∙ and-false (q t))
has_kept place q ((u, h) ∷ es) t sorted = elim (cases_Bool (tuple_eq t u)) [
  | inl is ↦
      let same : t ≡ u = tuple_same t u is in
      let gone : there_at (versions_of t (rows_in (found t es))) place t ≡ false = ap (λ o. there_at (versions_of t (rows_in o)) place t) (ap (λ (x : Tuple). found x es) same ∙ found_above u es sorted.0) ∙ never place t in
      let none : list_any (tuple_eq t) (kept_of place q es) ≡ false = has_kept place q es t sorted.1 ∙ ap (λ (b : Bool). q t && b) gone ∙ and-false (q t) in
      let here : found t ((u, h) ∷ es) ≡ Some h = ap (λ (b : Bool). cond b (Some h) (found t es)) (same_tie t u ∙ is) in
      first (q u && there_at (versions_of u h) place u) t u (kept_of place q es) is none
      ∙ ap (λ (x : Tuple). q x && there_at (versions_of x h) place x) (sym same)
      ∙ ap (λ o. q t && there_at (versions_of t (rows_in o)) place t) (sym here)
  | inr apart ↦
      let past : found t ((u, h) ∷ es) ≡ found t es = ap (λ (b : Bool). cond b (Some h) (found t es)) (same_tie t u ∙ apart) in
      skipped (q u && there_at (versions_of u h) place u) t u (kept_of place q es) apart
      ∙ has_kept place q es t sorted.1
      ∙ ap (λ o. q t && there_at (versions_of t (rows_in o)) place t) (sym past)
]

both : (a b : Bool) → (a && b) ≡ true → (b ≡ true) × (a ≡ true)
both true true h = (refl, refl)
both true false h = absurd cc
both false b h = absurd cc

joined : (a b : Bool) → b ≡ true → a ≡ true → (a && b) ≡ true
joined a b h k = ap (λ (x : Bool). x && b) k ∙ h

-- ascending tuples, and all that are there and pass the test
pub picked_of : (there : Tuple → Bool) (q : Tuple → Bool) (ts : List Tuple) → AreAscending ts → ((t : Tuple) → list_any (tuple_eq t) ts ≡ (q t && there t)) → IsPicked there q ts
picked_of there q ts up has = record {
  ascending = up;
  exact = λ t. (
    λ h. both (q t) (there t) (sym (has t) ∙ list_any-from_Contains tuple_equivalence t ts h),
    λ h. Contains-from_any tuple_same t ts (has t ∙ joined (q t) (there t) h.0 h.1),
  );
}

-- and back
pub picked_any : (there : Tuple → Bool) (q : Tuple → Bool) (ts : List Tuple) → IsPicked there q ts → (t : Tuple) → list_any (tuple_eq t) ts ≡ (q t && there t)
picked_any there q ts picked t = same_tests (list_any (tuple_eq t) ts) (q t && there t)
    (λ has. let pair = (picked.exact t).0 (Contains-from_any tuple_same t ts has) in joined (q t) (there t) pair.0 pair.1)
    (λ h. let pair = both (q t) (there t) h in list_any-from_Contains tuple_equivalence t ts ((picked.exact t).1 (pair.0, pair.1)))

-- the tuples of a table that are there and pass a test
pub kept_selection : (place : ℕ) (q : Tuple → Bool) (es : Entries) → AreSorted es → IsPicked (there_at (listed es) place) q (kept_of place q es)
unfolding there_in
kept_selection place q es sorted = picked_of (there_at (listed es) place) q (kept_of place q es) (ascending place q es sorted)
    (λ t. has_kept place q es t sorted ∙ ap (λ (b : Bool). q t && b) (sym (there_at_own (listed es) place t ∙ ap (λ l. there_at l place t) (of_listed t es sorted))))

-- what is there of all versions is there by the tuple's own rows
pub there_by_rows : (t : Tuple) (rows : List Row) (all : List Version) (place : ℕ) → versions_of t rows ≡ of_tuple t all → there_at all place t ≡ there_at (versions_of t rows) place t
there_by_rows t rows all place own = there_at_own all place t ∙ ap (λ (l : List Version). there_at l place t) (sym own)

-- ---- a walk over those that stand side by side

-- a walk from the first one on leaves none out
pub kept_from_first : (place : ℕ) (q : Tuple → Bool) (p : Tuple → Bool) → ((t : Tuple) → IsTuple t → q t ≡ true → p t ≡ true) → (es : Entries) → AllByRecursion IsTuple (keys_of es) → kept_of place q (filter (λ e. p e.0) es) ≡ kept_of place q es
kept_from_first place q p passes [] spelled = refl
kept_from_first place q p passes ((t, h) ∷ es) spelled = elim (cases_Bool (p t)) [
  | inl is ↦
      ap (λ (b : Bool). kept_of place q (cond b ((t, h) ∷ filter (λ e. p e.0) es) (filter (λ e. p e.0) es))) is
      ∙ ap (λ (l : List Tuple). cond (q t && there_at (versions_of t h) place t) (t ∷ l) l) (kept_from_first place q p passes es spelled.1)
  | inr apart ↦
      ap (λ (b : Bool). kept_of place q (cond b ((t, h) ∷ filter (λ e. p e.0) es) (filter (λ e. p e.0) es))) apart
      ∙ kept_from_first place q p passes es spelled.1
      ∙ sym (ap (λ (b : Bool). cond (b && there_at (versions_of t h) place t) (t ∷ kept_of place q es) (kept_of place q es)) (misses (q t) (p t) (passes t spelled.0) apart))
]
  where
    misses : (m b : Bool) → (m ≡ true → b ≡ true) → b ≡ false → m ≡ false
    misses true b implies no_pass = sym (implies refl) ∙ no_pass
    misses false b implies no_pass = refl

-- the entries of a walk from the first one on: in order, and none before it
pub record IsWalk (first : Tuple) (es : Entries) : Type 0 where
  pub in_order : AreSorted es
  pub above : AllByRecursion (λ (t : Tuple). is_le (tuple_cmp first t) ≡ true) (keys_of es)

none_after : (place : ℕ) (q : Tuple → Bool) (first t : Tuple) → IsFirst q first → is_le (tuple_cmp first t) ≡ true → q t ≡ false → (es : Entries) → AllByRecursion (λ y. tuple_cmp t y ≡ Less) (keys_of es) → kept_of place q es ≡ []
none_after place q first t is low misses [] above = refl
none_after place q first t is low misses ((u, h) ∷ es) above =
    ap (λ (b : Bool). cond (b && there_at (versions_of u h) place u) (u ∷ kept_of place q es) (kept_of place q es)) (out (q u) (is.within t u low above.0))
    ∙ none_after place q first t is low misses es above.1
  where
    out : (m : Bool) → (m ≡ true → q t ≡ true) → m ≡ false
    out true implies = sym (implies refl) ∙ misses
    out false implies = refl

-- after one that does not pass the test none does
pub none_left : (place : ℕ) (q : Tuple → Bool) (first t : Tuple) (h : List Row) (es : Entries) → IsFirst q first → IsWalk first ((t, h) ∷ es) → q t ≡ false → kept_of place q ((t, h) ∷ es) ≡ []
unfolding IsStrictlySortedBy
none_left place q first t h es is walk misses =
    ap (λ (b : Bool). cond (b && there_at (versions_of t h) place t) (t ∷ kept_of place q es) (kept_of place q es)) misses
    ∙ none_after place q first t is walk.above.0 misses es walk.in_order.0

pub walk_rest : (first t : Tuple) (h : List Row) (es : Entries) → IsWalk first ((t, h) ∷ es) → IsWalk first es
unfolding IsStrictlySortedBy
walk_rest first t h es walk = record { in_order = walk.in_order.1; above = walk.above.1 }

keys_filtered : (p : Tuple → Bool) (es : Entries) → keys_of (filter (λ e. p e.0) es) ≡ filter p (keys_of es)
keys_filtered p [] = refl
keys_filtered p ((t, h) ∷ es) = elim (cases_Bool (p t)) [
  | inl is ↦ rw is (ap (λ (l : List Tuple). t ∷ l) (keys_filtered p es))
  | inr apart ↦ rw apart (keys_filtered p es)
]

pub all_filtered : (p : Tuple → Bool) (ts : List Tuple) → AllByRecursion (λ (t : Tuple). p t ≡ true) (filter p ts)
all_filtered p [] = tt
all_filtered p (t ∷ ts) = elim (cases_Bool (p t)) [
  | inl is ↦ rw is (is, all_filtered p ts)
  | inr apart ↦ rw apart (all_filtered p ts)
]

pub all_weaker : (P Q : Tuple → Type 0) → ((t : Tuple) → P t → Q t) → (ts : List Tuple) → AllByRecursion P ts → AllByRecursion Q ts
all_weaker P Q f [] all = tt
all_weaker P Q f (t ∷ ts) all = (f t all.0, all_weaker P Q f ts all.1)

pub walk_from : (first : Tuple) (p : Tuple → Bool) → ((t : Tuple) → p t ≡ true → is_le (tuple_cmp first t) ≡ true) → (es : Entries) → AreSorted es → IsWalk first (filter (λ e. p e.0) es)
walk_from first p low es sorted = record {
  in_order = subst (IsStrictlySortedBy tuple_cmp) (sym (keys_filtered p es)) (IsStrictlySortedBy-filter tuple_cmp p (keys_of es) sorted);
  above = subst (AllByRecursion (λ (t : Tuple). is_le (tuple_cmp first t) ≡ true)) (sym (keys_filtered p es)) (all_weaker (λ t. p t ≡ true) (λ t. is_le (tuple_cmp first t) ≡ true) low (filter p (keys_of es)) (all_filtered p (keys_of es)));
}

-- what a range from the first one on holds

pub low_from : (first t : Tuple) → (is_le (tuple_cmp first t) && true) ≡ true → is_le (tuple_cmp first t) ≡ true
low_from first t h = sym (and-true (is_le (tuple_cmp first t))) ∙ h

pub from_low : (first t : Tuple) → is_le (tuple_cmp first t) ≡ true → (is_le (tuple_cmp first t) && true) ≡ true
from_low first t h = and-true (is_le (tuple_cmp first t)) ∙ h

-- an entry that is kept, and one that is not

pub keeps_first : (place : ℕ) (q : Tuple → Bool) (t : Tuple) (h : List Row) (es : Entries) → q t ≡ true → there_at (versions_of t h) place t ≡ true → kept_of place q ((t, h) ∷ es) ≡ t ∷ kept_of place q es
keeps_first place q t h es has there = rw has (rw there refl)

pub skips_first : (place : ℕ) (q : Tuple → Bool) (t : Tuple) (h : List Row) (es : Entries) → there_at (versions_of t h) place t ≡ false → kept_of place q ((t, h) ∷ es) ≡ kept_of place q es
skips_first place q t h es gone = ap (λ (b : Bool). cond (q t && b) (t ∷ kept_of place q es) (kept_of place q es)) gone ∙ ap (λ (b : Bool). cond b (t ∷ kept_of place q es) (kept_of place q es)) (and-false (q t))

-- a walk that goes past those that miss the test, as long as another one is passed

none_beyond : (place : ℕ) (q p : Tuple → Bool) (first t : Tuple) → ((v u : Tuple) → is_le (tuple_cmp first v) ≡ true → tuple_cmp v u ≡ Less → q u ≡ true → p v ≡ true) → is_le (tuple_cmp first t) ≡ true → p t ≡ false → (es : Entries) → AllByRecursion (λ y. tuple_cmp t y ≡ Less) (keys_of es) → kept_of place q es ≡ []
none_beyond place q p first t within low out [] above = refl
none_beyond place q p first t within low out ((u, h) ∷ es) above =
    ap (λ (b : Bool). cond (b && there_at (versions_of u h) place u) (u ∷ kept_of place q es) (kept_of place q es)) (missed (q u) (within t u low above.0))
    ∙ none_beyond place q p first t within low out es above.1
  where
    missed : (m : Bool) → (m ≡ true → p t ≡ true) → m ≡ false
    missed true implies = sym (implies refl) ∙ out
    missed false implies = refl

-- after one that does not pass the wider test none passes the other
pub none_past : (place : ℕ) (q p : Tuple → Bool) (first t : Tuple) (h : List Row) (es : Entries) → ((v u : Tuple) → is_le (tuple_cmp first v) ≡ true → tuple_cmp v u ≡ Less → q u ≡ true → p v ≡ true) → q t ≡ false → IsWalk first ((t, h) ∷ es) → p t ≡ false → kept_of place q ((t, h) ∷ es) ≡ []
unfolding IsStrictlySortedBy
none_past place q p first t h es within misses walk out =
    ap (λ (b : Bool). cond (b && there_at (versions_of t h) place t) (t ∷ kept_of place q es) (kept_of place q es)) misses
    ∙ none_beyond place q p first t within walk.above.0 out es walk.in_order.0

pub passes_first : (place : ℕ) (q : Tuple → Bool) (t : Tuple) (h : List Row) (es : Entries) → q t ≡ false → kept_of place q ((t, h) ∷ es) ≡ kept_of place q es
passes_first place q t h es misses = ap (λ (b : Bool). cond (b && there_at (versions_of t h) place t) (t ∷ kept_of place q es) (kept_of place q es)) misses
