-- What the shards tell together are the versions of the log.
use Rattle.std.proofs.Common.{◌≡◌, ⊎_elim, ◌≤◌, ◌<◌, ◌+◌, ◌==◌, ◌||◌, nat_lt, ℕ, zero, suc, Bool, true, true≢false, false, cond, filter, List, [], ◌∷◌, ◌++◌, length, take, refl, sym, ◌∙◌, ap, subst, arith, tests}
use Rattle.std.specs.List.{AllByRecursion}
use Rattle.std.specs.List.Sorted.{IsPermutation}
use Rattle.std.proofs.lemmas.Bool.{cases_Bool, eqb-true, le-ltb, lt-ltb, ltb-true}
use Rattle.std.proofs.lemmas.List.{length-take-le}
use Rattle.std.proofs.lemmas.List.Elements.{filter-append}
use Rattle.std.proofs.lemmas.List.Sorted.{IsPermutation-cons, IsPermutation-middle, IsPermutation-refl, IsPermutation-sym, IsPermutation-trans}
use Rattle.laws.specs.Worlds.{AreWhole}
use Rattle.reshard_laws.proofs.Words.{AreAlike, AreKept, each_filter, Entry, Identity, IsKept, of_shard, of_tuple, RisesFrom, Tuple, tuple_of, tuple_same, Version}
use Rattle.replay.proofs.Doubting.{each_append}
use Rattle.tuples.specs.declared.change.Change.{Change}
use Rattle.tuples.specs.Changes.{AreDistinct, changed, has_tuple}
use Rattle.tuples.specs.Order.{tuple_eq}
use Rattle.tuples.specs.Parts.{shard_of}
use Rattle.tuples.specs.Versions.{changes_from, collected, placed, versions}
use Rattle.tuples.proofs.Named.{shard_below}
use Rattle.versions.proofs.Alike.{alike_permutation, collected_own}
use Rattle.reshard_laws.proofs.Sorted.{Strict, strict_filter, strict_weaker}

-- ---- the versions of a log rise strictly within each tuple

or_first : (a b : Bool) → (a || b) ≡ false → a ≡ false
or_first true b is = is
or_first false b is = refl

or_second : (a b : Bool) → (a || b) ≡ false → b ≡ false
or_second true b is = absurd (true≢false is)
or_second false b is = is

none_of : (t : Tuple) (place : ℕ) (changes : List Change) → has_tuple t (changed changes) ≡ false → of_tuple t (placed place changes) ≡ []
none_of t place [] none = refl
none_of t place (c ∷ changes) none = rw (or_first (tuple_eq t (tuple_of c)) (has_tuple t (changed changes)) none) (none_of t place changes (or_second (tuple_eq t (tuple_of c)) (has_tuple t (changed changes)) none))

-- of one write, and of those after it
strict_placed : (t : Tuple) (n place : ℕ) (changes : List Change) (more : List Version) → n < place → AreDistinct (changed changes) → Strict place more → Strict n (of_tuple t (placed place changes) ++ more)
strict_placed t n place [] more lt distinct strict = strict_weaker n place more (omega (arith, lt)) strict
strict_placed t n place (c ∷ changes) more lt distinct strict = ⊎_elim
    (λ here.
    let none : of_tuple t (placed place changes) ≡ [] = none_of t place changes (subst (λ (x : Tuple). has_tuple x (changed changes) ≡ false) (sym (tuple_same t (tuple_of c) here)) distinct.0) in
    rw here (lt, subst (λ (l : List Version). Strict place (l ++ more)) (sym none) strict))
    (λ other. rw other (strict_placed t n place changes more lt distinct.1 strict))
    (cases_Bool (tuple_eq t (tuple_of c)))

strict_changes : (t : Tuple) (n place : ℕ) (log : List Entry) → n < place → AreWhole log → Strict n (of_tuple t (changes_from place log))
strict_changes t n place [] lt whole = tt
strict_changes t n place (w ∷ log) lt whole =
    subst (Strict n) (sym (filter-append _ (placed place w.changes) (changes_from (place + 1) log)))
    (strict_placed t n place w.changes (of_tuple t (changes_from (place + 1) log)) lt (let is = whole zero w refl in is.part.distinct_changes)
    (strict_changes t place (place + 1) log (omega arith) (λ j v is. whole (suc j) v is)))

pub strict_versions : (t : Tuple) (log : List Entry) (p h : ℕ) → AreWhole (take p log) → Strict 0 (of_tuple t (versions log p h))
unfolding versions collected
strict_versions t log p h whole =
    subst (Strict 0) (sym (collected_own h t (changes_from 1 (take p log)))) (strict_filter _ 0 (of_tuple t (changes_from 1 (take p log))) (strict_changes t 0 1 (take p log) (omega arith) whole))

-- ---- and are within it

within_placed : (m place : ℕ) (changes : List Change) → place ≤ m → AllByRecursion (λ (v : Version). v.place ≤ m) (placed place changes)
within_placed m place [] le = tt
within_placed m place (c ∷ changes) le = (le, within_placed m place changes le)

within_changes : (m place : ℕ) (log : List Entry) → place + length log ≤ m + 1 → AllByRecursion (λ (v : Version). v.place ≤ m) (changes_from place log)
within_changes m place [] le = tt
within_changes m place (w ∷ log) le =
    each_append (λ (v : Version). v.place ≤ m) (placed place w.changes) (changes_from (place + 1) log) (within_placed m place w.changes (omega (arith, le))) (within_changes m (place + 1) log (omega (arith, le)))

within_versions : (log : List Entry) (p h : ℕ) → p ≤ length log → AllByRecursion (λ (v : Version). v.place ≤ p) (versions log p h)
unfolding versions collected
within_versions log p h le = each_filter (λ (v : Version). v.place ≤ p) _ (changes_from 1 (take p log)) (within_changes p 1 (take p log) (let e = length-take-le p log le in omega (arith, e)))

rises_from : (n : ℕ) (vs : List Version) → Strict n vs → RisesFrom (n + 1) vs
rises_from n [] strict = tt
rises_from n (v ∷ vs) strict = ((let a = strict.0 in omega (arith, a)), weaker v.place vs (rises_from v.place vs strict.1))
  where
    weaker : (m : ℕ) (us : List Version) → RisesFrom (m + 1) us → RisesFrom m us
    weaker m [] rises = tt
    weaker m (u ∷ us) rises = ((let a = rises.0 in omega (arith, a)), rises.1)

one_swap : (p q : Version → Bool) (v : Version) (vs : List Version) (a b : Bool) → p v ≡ a → q v ≡ b → filter p (filter q vs) ≡ filter q (filter p vs) → filter p (filter q (v ∷ vs)) ≡ filter q (filter p (v ∷ vs))
one_swap p q v vs true true is at rest = rw (is, at) (rw is (ap (λ (l : List Version). v ∷ l) rest))
one_swap p q v vs true false is at rest = rw (is, at) rest
one_swap p q v vs false true is at rest = rw (is, at) (rw is rest)
one_swap p q v vs false false is at rest = rw (is, at) rest

filters_swap : (p q : Version → Bool) (vs : List Version) → filter p (filter q vs) ≡ filter q (filter p vs)
filters_swap p q [] = refl
filters_swap p q (v ∷ vs) = one_swap p q v vs (p v) (q v) refl refl (filters_swap p q vs)

all_own : (shards s : ℕ) (vs : List Version) → AllByRecursion (λ (v : Version). shard_of shards (tuple_of v.change).object ≡ s) (of_shard shards s vs)
all_own shards s [] = tt
all_own shards s (v ∷ vs) = ⊎_elim
    (λ here. rw here (eqb-true (shard_of shards (tuple_of v.change).object) s here, all_own shards s vs))
    (λ other. rw other (all_own shards s vs))
    (cases_Bool (shard_of shards (tuple_of v.change).object == s))

both : (me : Identity) (p : ℕ) (vs : List Version) → AllByRecursion (λ (v : Version). v.place ≤ p) vs → AllByRecursion (λ (v : Version). shard_of me.shards (tuple_of v.change).object ≡ me.node) vs → AllByRecursion (IsKept me p) vs
both me p [] within own = tt
both me p (v ∷ vs) within own = (record { within = within.0; own = own.0 }, both me p vs within.1 own.1)

-- a shard of any number of shards may keep those of its own tuples
pub versions_kept : (me : Identity) (log : List Entry) (p h : ℕ) → p ≤ length log → AreWhole (take p log) → AreKept me p (of_shard me.shards me.node (versions log p h))
versions_kept me log p h le whole = record {
  rise = λ t. subst (RisesFrom 1) (sym (filters_swap _ _ (versions log p h)))
      (rises_from 0 (of_shard me.shards me.node (of_tuple t (versions log p h))) (strict_filter _ 0 (of_tuple t (versions log p h)) (strict_versions t log p h whole)));
  each = both me p (of_shard me.shards me.node (versions log p h)) (each_filter (λ (v : Version). v.place ≤ p) _ (versions log p h) (within_versions log p h le)) (all_own me.shards me.node (versions log p h));
}

-- versions of the same tuples in the same order, those of one shard alone
pub own_alike : (shards s : ℕ) (vs us : List Version) → AreAlike vs us → AreAlike (of_shard shards s vs) (of_shard shards s us)
own_alike shards s vs us alike = record { each = λ t. filters_swap _ _ vs ∙ ap (of_shard shards s) (alike.each t) ∙ sym (filters_swap _ _ us) }

-- ---- all shards together

module _ (shards : ℕ) where
  -- those of the first shards
  abbrev pub first_shards : ℕ → List Version → List Version
  first_shards s = filter (λ (v : Version). nat_lt (shard_of shards (tuple_of v.change).object) s)

  apart : (x s : ℕ) → nat_lt x s ≡ true → (x == s) ≡ false
  apart x s lt = ⊎_elim (λ same. absurd (let a = eqb-true x s same in let b = ltb-true x s lt in omega (arith, a, b))) (λ other. other) (cases_Bool (x == s))

  either : (x s : ℕ) → (nat_lt x s || (x == s)) ≡ nat_lt x (suc s)
  either x s = grind (arith, tests)

  -- one more version, which is of those, of the next shard, or of neither
  one_version : (v : Version) (first own both : List Version) (a b c : Bool) → (a ≡ true → b ≡ false) → (a || b) ≡ c → IsPermutation (first ++ own) both → IsPermutation (cond a (v ∷ first) first ++ cond b (v ∷ own) own) (cond c (v ∷ both) both)
  one_version v first own both true b c one is rest =
      subst (λ (x : Bool). IsPermutation ((v ∷ first) ++ cond x (v ∷ own) own) (cond c (v ∷ both) both)) (sym (one refl))
      (subst (λ (x : Bool). IsPermutation ((v ∷ first) ++ own) (cond x (v ∷ both) both)) is (IsPermutation-cons v (first ++ own) both rest))
  one_version v first own both false true c one is rest =
      subst (λ (x : Bool). IsPermutation (first ++ v ∷ own) (cond x (v ∷ both) both)) is
      (IsPermutation-trans _ _ _ (IsPermutation-middle first v own) (IsPermutation-cons v (first ++ own) both rest))
  one_version v first own both false false c one is rest = subst (λ (x : Bool). IsPermutation (first ++ own) (cond x (v ∷ both) both)) is rest

  pub one_more : (s : ℕ) (vs : List Version) → IsPermutation (first_shards s vs ++ of_shard shards s vs) (first_shards (suc s) vs)
  one_more s [] = IsPermutation-refl []
  one_more s (v ∷ vs) =
      let x = shard_of shards (tuple_of v.change).object in
      one_version v (first_shards s vs) (of_shard shards s vs) (first_shards (suc s) vs) (nat_lt x s) (x == s) (nat_lt x (suc s)) (apart x s) (either x s) (one_more s vs)

  pub none_first : (vs : List Version) → first_shards 0 vs ≡ []
  none_first [] = refl
  none_first (v ∷ vs) = rw (le-ltb (shard_of shards (tuple_of v.change).object) 0 (omega arith)) (none_first vs)

  pub all_first : 1 ≤ shards → (vs : List Version) → first_shards shards vs ≡ vs
  all_first some [] = refl
  all_first some (v ∷ vs) = rw (lt-ltb (shard_of shards (tuple_of v.change).object) shards (shard_below shards (tuple_of v.change).object some)) (ap (λ (l : List Version). v ∷ l) (all_first some vs))

-- a shard tells the versions that it knows
pub told_same : (shards s : ℕ) (all rows told : List Version) → AreAlike rows (of_shard shards s all) → AreAlike told rows → IsPermutation (of_shard shards s all) told
told_same shards s all rows told alike same =
    IsPermutation-trans _ _ _ (IsPermutation-sym _ _ (alike_permutation rows (of_shard shards s all) alike)) (IsPermutation-sym _ _ (alike_permutation told rows same))
