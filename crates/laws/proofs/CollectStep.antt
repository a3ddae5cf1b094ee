-- Rows that are collected again under a higher horizon, and the rows of one shard.
use Rattle.std.proofs.Common.{◌≡◌, ◌⊎◌, inl, inr, ⊎_elim, ℕ, Bool, true, false, not, ◌<◌, ◌≤◌, ◌==◌, ◌&&◌, ◌||◌, nat_lt, nat_le, cond, List, [], ◌∷◌, filter, take, refl, sym, ◌∙◌, ap, arith}
use Rattle.std.proofs.lemmas.Bool.{cases_Bool, lt-ltb, le-leb, ltb-true, leb-true, leb-false, or_cases, both_ways, or_left, or_right}
use Rattle.tuples.specs.declared.entry.Entry.{Entry}
use Rattle.tuples.specs.declared.tuple.Tuple.{Tuple}
use Rattle.tuples.specs.declared.version.Version.{Version}
use Rattle.tuples.specs.Changes.{tuple_of}
use Rattle.tuples.specs.Order.{tuple_eq}
use Rattle.tuples.specs.Parts.{shard_of}
use Rattle.tuples.specs.Versions.{changes_from, collected, is_touch, of_shard, superseded, versions}
use Rattle.tuples.proofs.Same.{tuple_same}
use Rattle.versions.specs.Alike.{AreAlike}
use Rattle.versions.proofs.Alike.{alike_same, alike_trans, collected_alike, is_kept_of}

-- the second is a later version of the first one's tuple, at or below the horizon
abbrev follows : ℕ → Version → Version → Bool
follows h v u = tuple_eq (tuple_of v.change) (tuple_of u.change) && nat_lt v.place u.place && nat_le u.place h

three : (a b c : Bool) → (a && b && c) ≡ true → (a ≡ true) × (b ≡ true) × (c ≡ true)
three true true true is = (refl, refl, refl)
three true true false is = absurd cc
three true false c is = absurd cc
three false b c is = absurd cc

from_three : (a b c : Bool) → a ≡ true → b ≡ true → c ≡ true → (a && b && c) ≡ true
from_three a b c x y z = rw x (rw y z)

-- what a version is followed by stays below a higher horizon too
higher : (h g : ℕ) (v : Version) → h ≤ g → (rows : List Version) → superseded h v rows ≡ true → superseded g v rows ≡ true
higher h g v le [] is = absurd cc
higher h g v le (u ∷ rows) is = ⊎_elim
    (λ here.
    let a = three (tuple_eq (tuple_of v.change) (tuple_of u.change)) (nat_lt v.place u.place) (nat_le u.place h) here in
    let low : u.place ≤ h = leb-true _ _ a.2 in
    or_left (follows g v u) (superseded g v rows) (from_three _ _ _ a.0 a.1 (le-leb u.place g (omega arith))))
    (λ later. or_right (follows g v u) (superseded g v rows) (higher h g v le rows later))
    (or_cases (follows h v u) (superseded h v rows) is)

-- what follows among some of the rows follows among all
among_some : (g : ℕ) (v : Version) (p : Version → Bool) (rows : List Version) → superseded g v (filter p rows) ≡ true → superseded g v rows ≡ true
among_some g v p [] is = is
among_some g v p (u ∷ rows) is = ⊎_elim
    (λ yes. ⊎_elim
    (λ here. or_left (follows g v u) (superseded g v rows) here)
    (λ later. or_right (follows g v u) (superseded g v rows) (among_some g v p rows later))
    (or_cases (follows g v u) (superseded g v (filter p rows)) (rw yes at is)))
    (λ no. or_right (follows g v u) (superseded g v rows) (among_some g v p rows (rw no at is)))
    (cases_Bool (p u))

-- what follows below the higher horizon follows below the lower one, or is left under that
still_follows : (h g : ℕ) (v : Version) (whole rows : List Version) → superseded g v rows ≡ true → (superseded h v rows ≡ true) ⊎ (superseded g v (filter (is_kept_of h whole) rows) ≡ true)
still_follows h g v whole [] is = absurd cc
still_follows h g v whole (u ∷ rows) is = ⊎_elim
    (λ here. ⊎_elim
    (λ low. let a = three (tuple_eq (tuple_of v.change) (tuple_of u.change)) (nat_lt v.place u.place) (nat_le u.place g) here in inl (or_left (follows h v u) (superseded h v rows) (from_three _ _ _ a.0 a.1 low)))
    (λ high.
    let above : nat_lt h u.place ≡ true = lt-ltb h u.place (leb-false _ _ high) in
    let kept : is_kept_of h whole u ≡ true = or_left (nat_lt h u.place) (is_touch u.change && not (superseded h u whole)) above in
    inr (rw kept (or_left (follows g v u) (superseded g v (filter (is_kept_of h whole) rows)) here)))
    (cases_Bool (nat_le u.place h)))
    (λ later. ⊎_elim
    (λ low. inl (or_right (follows h v u) (superseded h v rows) low))
    (λ left. inr (in_longer (is_kept_of h whole u) left))
    (still_follows h g v whole rows later))
    (or_cases (follows g v u) (superseded g v rows) is)
  where
    in_longer : (b : Bool) → superseded g v (filter (is_kept_of h whole) rows) ≡ true → superseded g v (cond b (u ∷ filter (is_kept_of h whole) rows) (filter (is_kept_of h whole) rows)) ≡ true
    in_longer true there = or_right (follows g v u) (superseded g v (filter (is_kept_of h whole) rows)) there
    in_longer false there = there

-- a version above the horizon is not followed below it
above_stays : (h : ℕ) (v : Version) (rows : List Version) → nat_lt h v.place ≡ true → superseded h v rows ≡ false
above_stays h v [] lt = refl
above_stays h v (u ∷ rows) lt = ⊎_elim
    (λ yes.
    let a = three _ _ _ yes in
    let above : h < v.place = ltb-true _ _ lt in
    let later : v.place < u.place = ltb-true _ _ a.1 in
    let within : u.place ≤ h = leb-true _ _ a.2 in
    absurd (omega arith))
    (λ no. rw no (above_stays h v rows lt))
    (cases_Bool (follows h v u))

filter_twice : {X : Type 0} (p q r : X → Bool) → ((x : X) → r x ≡ (q x && p x)) → (xs : List X) → filter p (filter q xs) ≡ filter r xs
filter_twice p q r same [] = refl
filter_twice p q r same (x ∷ xs) = ⊎_elim
    (λ yes. rw (same x) (rw yes (ap (λ l. cond (p x) (x ∷ l) l) (filter_twice p q r same xs))))
    (λ no. rw (same x) (rw no (filter_twice p q r same xs)))
    (cases_Bool (q x))

-- the two tests, one after another: a and b say that the place is above the lower and the higher horizon, x, y and z that the version is
-- followed below the lower, below the higher, and below the higher among what is left
both_tests : (a b t x y z : Bool) → (b ≡ true → a ≡ true) → (a ≡ true → x ≡ false) → (y ≡ true → (x ≡ true) ⊎ (z ≡ true)) → (x ≡ true → y ≡ true) → (z ≡ true → y ≡ true)
    → (b || (t && not y)) ≡ ((a || (t && not x)) && (b || (t && not z)))
both_tests true true t x y z ba ax yxz xy zy = refl
both_tests false true t x y z ba ax yxz xy zy = absurd (both_ways false refl (ba refl))
both_tests a false false x y z ba ax yxz xy zy = sym (none a)
  where
    none : (c : Bool) → ((c || false) && false) ≡ false
    none true = refl
    none false = refl
both_tests a false true x true true ba ax yxz xy zy = sym (none (a || not x))
  where
    none : (c : Bool) → (c && false) ≡ false
    none true = refl
    none false = refl
both_tests true false true x true false ba ax yxz xy zy = absurd (⊎_elim (λ is. both_ways x (ax refl) is) (λ is. both_ways false refl is) (yxz refl))
both_tests false false true true true false ba ax yxz xy zy = refl
both_tests false false true false true false ba ax yxz xy zy = absurd (⊎_elim (λ is. both_ways false refl is) (λ is. both_ways false refl is) (yxz refl))
both_tests a false true true false z ba ax yxz xy zy = absurd (both_ways false refl (xy refl))
both_tests a false true false false true ba ax yxz xy zy = absurd (both_ways false refl (zy refl))
both_tests true false true false false false ba ax yxz xy zy = refl
both_tests false false true false false false ba ax yxz xy zy = refl

-- collected under one horizon and then under a higher one is collected under the higher one
pub collected_again : (h g : ℕ) (rows : List Version) → h ≤ g → collected g (collected h rows) ≡ collected g rows
unfolding collected
collected_again h g rows le = filter_twice (is_kept_of g (filter (is_kept_of h rows) rows)) (is_kept_of h rows) (is_kept_of g rows) same rows
  where
    same : (v : Version) → is_kept_of g rows v ≡ (is_kept_of h rows v && is_kept_of g (filter (is_kept_of h rows) rows) v)
    same v = both_tests (nat_lt h v.place) (nat_lt g v.place) (is_touch v.change) (superseded h v rows) (superseded g v rows) (superseded g v (filter (is_kept_of h rows) rows))
        (λ above. let over : g < v.place = ltb-true _ _ above in lt-ltb h v.place (omega arith))
        (above_stays h v rows)
        (still_follows h g v rows rows)
        (higher h g v le rows)
        (among_some g v (is_kept_of h rows) rows)

filter_swapped : {X : Type 0} (p q r : X → Bool) → ((x : X) → q x ≡ true → p x ≡ r x) → (xs : List X) → filter p (filter q xs) ≡ filter q (filter r xs)
filter_swapped p q r same [] = refl
filter_swapped p q r same (x ∷ xs) = ⊎_elim
    (λ yes. ⊎_elim
    (λ kept. rw yes (rw (same x yes) (rw kept (rw yes (ap (λ l. x ∷ l) (filter_swapped p q r same xs))))))
    (λ gone. rw yes (rw (same x yes) (rw gone (filter_swapped p q r same xs))))
    (cases_Bool (r x)))
    (λ no. ⊎_elim
    (λ kept. rw no (rw kept (rw no (filter_swapped p q r same xs))))
    (λ gone. rw no (rw gone (filter_swapped p q r same xs)))
    (cases_Bool (r x)))
    (cases_Bool (q x))

-- only versions of the shard follow versions of the shard's tuples
followed_own : (shards s h : ℕ) (v : Version) → (shard_of shards (tuple_of v.change).object == s) ≡ true → (rows : List Version) → superseded h v (of_shard shards s rows) ≡ superseded h v rows
followed_own shards s h v own [] = refl
followed_own shards s h v own (u ∷ rows) = ⊎_elim
    (λ yes. rw yes (ap (λ b. follows h v u || b) (followed_own shards s h v own rows)))
    (λ no. rw no (followed_own shards s h v own rows ∙ sym (not_first no)))
    (cases_Bool (shard_of shards (tuple_of u.change).object == s))
  where
    not_first : (shard_of shards (tuple_of u.change).object == s) ≡ false → (follows h v u || superseded h v rows) ≡ superseded h v rows
    not_first other = ⊎_elim
        (λ is.
        let a = three (tuple_eq (tuple_of v.change) (tuple_of u.change)) (nat_lt v.place u.place) (nat_le u.place h) is in
        let same : tuple_of v.change ≡ tuple_of u.change = tuple_same (tuple_of v.change) (tuple_of u.change) a.0 in
        absurd (both_ways _ (ap (λ (t : Tuple). shard_of shards t.object == s) same ∙ other) own))
        (λ not_it. rw not_it refl)
        (cases_Bool (follows h v u))

-- the rows of one shard are collected by themselves
pub collected_own : (shards s h : ℕ) (rows : List Version) → collected h (of_shard shards s rows) ≡ of_shard shards s (collected h rows)
unfolding collected
collected_own shards s h rows = filter_swapped (is_kept_of h (of_shard shards s rows)) (λ (v : Version). shard_of shards (tuple_of v.change).object == s) (is_kept_of h rows)
    (λ v own. ap (λ b. nat_lt h v.place || (is_touch v.change && not b)) (followed_own shards s h v own rows)) rows

-- rows that stand for the first writes of a list stand for them under a higher horizon once they are collected
pub rows_collected : (shards s : ℕ) (log : List Entry) (rows : List Version) (p h place : ℕ) → h ≤ place → AreAlike rows (of_shard shards s (versions log p h))
    → AreAlike (collected place rows) (of_shard shards s (versions log p place))
unfolding versions
rows_collected shards s log rows p h place le alike =
    let changes = changes_from 1 (take p log) in
    alike_trans (collected_alike alike place) (alike_same _ _ (collected_own shards s place (collected h changes) ∙ ap (of_shard shards s) (collected_again h place changes le)))
