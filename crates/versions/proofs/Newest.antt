-- The newest version of a tuple, and its last place in the log.
use Rattle.std.proofs.Common.{◌≡◌, ℕ, Bool, true, false, not, ◌||◌, ◌&&◌, ◌+◌, ◌<◌, ◌≤◌, nat_lt, max, cond, List, [], ◌∷◌, ◌++◌, take, filter, inl, inr, refl, sym, ◌∙◌, ap, subst, arith}
use Rattle.std.specs.Prelude.{if◌then◌else◌}
use Rattle.std.proofs.lemmas.Bool.{cases_Bool, ltb-true, or_left}
use Rattle.std.proofs.lemmas.Bool.Decides.{nat_tests}
use Rattle.tuples.specs.declared.change.Change.{Change}
use Rattle.tuples.specs.declared.entry.Entry.{Entry}
use Rattle.tuples.specs.declared.tuple.Tuple.{Tuple}
use Rattle.tuples.specs.declared.version.Version.{Version}
use Rattle.tuples.specs.Changes.{changed, has_tuple, tuple_of}
use Rattle.tuples.specs.Log.{last_from, last_place}
use Rattle.tuples.specs.Order.{tuple_eq}
use Rattle.tuples.specs.Versions.{changes_from, collected, is_touch, last_version, placed, superseded, versions}
use Rattle.versions.specs.Last.{NewestIsLast}

-- ---- the last place by the changes of the log

either : (b d : Bool) (place last : ℕ) → (if b then max place (if d then max place last else last) else (if d then max place last else last)) ≡ (if b || d then max place last else last)
either true true place last = omega arith
either true false place last = refl
either false d place last = refl

-- the last version after the changes of one place
last_placed : (place : ℕ) (changes : List Change) (rows : List Version) (t : Tuple)
    → last_version (placed place changes ++ rows) t ≡ (if has_tuple t (changed changes) then max place (last_version rows t) else last_version rows t)
unfolding last_version
last_placed place [] rows t = refl
last_placed place (c ∷ changes) rows t =
    let last = last_version rows t in
    ap (λ (n : ℕ). if tuple_eq t (tuple_of c) then max place n else n) (last_placed place changes rows t)
    ∙ either (tuple_eq t (tuple_of c)) (has_tuple t (changed changes)) place last

step : (named : Bool) (found place last : ℕ) → found < place → max (if named then place else found) last ≡ max found (if named then max place last else last)
step true found place last lt = omega arith
step false found place last lt = refl

bound : (named : Bool) (found place : ℕ) → found < place → (if named then place else found) < place + 1
bound true found place lt = omega arith
bound false found place lt = omega arith

last_none : (found : ℕ) (t : Tuple) → found ≡ max found (last_version [] t)
unfolding last_version
last_none found t = omega arith

pub last_from_is : (found place : ℕ) (t : Tuple) (log : List Entry) → found < place → last_from found place t log ≡ max found (last_version (changes_from place log) t)
last_from_is found place t [] lt = last_none found t
last_from_is found place t (w ∷ log) lt =
    let named = has_tuple t (changed w.changes) in
    last_from_is (if named then place else found) (place + 1) t log (bound named found place lt)
    ∙ step named found place (last_version (changes_from (place + 1) log) t) lt
    ∙ ap (λ (n : ℕ). max found n) (sym (last_placed place w.changes (changes_from (place + 1) log) t))

zero_least : (n : ℕ) → max 0 n ≡ n
zero_least n = omega arith

-- the last place of a tuple is that of the newest of all its changes
pub last_place_is : (t : Tuple) (log : List Entry) → last_place log t ≡ last_version (changes_from 1 log) t
unfolding last_place
last_place_is t log = last_from_is 0 1 t log (omega arith) ∙ zero_least (last_version (changes_from 1 log) t)

-- ---- what a horizon leaves of it

-- so far the newest that is left is no newer than the newest, and is it above the horizon
record IsLeft (h all left : ℕ) : Type 0 where
  within : left ≤ all
  above : h < all → left ≡ all

less_or_not : (a b : ℕ) → nat_lt a b ≡ false → b ≤ a
less_or_not a b h = grind (arith, nat_tests)

kept_newest : (h p all left : ℕ) → IsLeft h all left → IsLeft h (max p all) (max p left)
kept_newest h p all left is = record {
  within = omega (arith, is.within);
  above = λ lt. elim (cases_Bool (nat_lt h all)) [
    | inl over ↦ ap (λ n. max p n) (is.above (ltb-true h all over))
    | inr under ↦ omega (arith, is.within, lt, less_or_not h all under)
  ];
}

gone_newest : (h p all left : ℕ) → p ≤ h → IsLeft h all left → IsLeft h (max p all) left
gone_newest h p all left low is = record {
  within = omega (arith, is.within);
  above = λ lt. let over : h < all = omega (arith, lt, low) in omega (arith, is.above over, over, low);
}

left_step : (own keeps : Bool) (h p all left : ℕ) → (keeps ≡ false → p ≤ h) → IsLeft h all left → IsLeft h (cond own (max p all) all) (cond keeps (cond own (max p left) left) left)
left_step true true h p all left low is = kept_newest h p all left is
left_step true false h p all left low is = gone_newest h p all left (low refl) is
left_step false true h p all left low is = is
left_step false false h p all left low is = is

last_cond : (keeps : Bool) (t : Tuple) (v : Version) (vs : List Version) → last_version (cond keeps (v ∷ vs) vs) t ≡ cond keeps (cond (tuple_eq t (tuple_of v.change)) (max v.place (last_version vs t)) (last_version vs t)) (last_version vs t)
unfolding last_version
last_cond true t v vs = refl
last_cond false t v vs = refl

not_kept : (h p : ℕ) (keeps : Bool) → (nat_lt h p ≡ true → keeps ≡ true) → keeps ≡ false → p ≤ h
not_kept h p keeps passes gone = elim (cases_Bool (nat_lt h p)) [
  | inl over ↦ absurd (let never : true ≡ false = sym (passes over) ∙ gone in cc)
  | inr under ↦ less_or_not h p under
]

left_is : (h : ℕ) (keep : Version → Bool) → ((v : Version) → nat_lt h v.place ≡ true → keep v ≡ true) → (t : Tuple) (vs : List Version) → IsLeft h (last_version vs t) (last_version (filter keep vs) t)
unfolding last_version
left_is h keep passes t [] = record { within = omega arith; above = λ lt. refl }
left_is h keep passes t (v ∷ vs) =
    subst (λ n. IsLeft h (last_version (v ∷ vs) t) n) (sym (last_cond (keep v) t v (filter keep vs)))
    (left_step (tuple_eq t (tuple_of v.change)) (keep v) h v.place (last_version vs t) (last_version (filter keep vs) t) (not_kept h v.place (keep v) (passes v)) (left_is h keep passes t vs))

collected_left : (h : ℕ) (rows : List Version) (t : Tuple) → IsLeft h (last_version rows t) (last_version (collected h rows) t)
unfolding collected
collected_left h rows t =
    left_is h (λ (v : Version). nat_lt h v.place || (is_touch v.change && not (superseded h v rows)))
    (λ v over. or_left (nat_lt h v.place) (is_touch v.change && not (superseded h v rows)) over) t rows

pub newest_is_last : NewestIsLast
unfolding versions
newest_is_last log p h t =
    let rows : List Version = changes_from 1 (take p log) in
    let left = collected_left h rows t in
    let place : last_place (take p log) t ≡ last_version rows t = last_place_is t (take p log) in
    record {
      above = λ lt. left.above (subst (λ n. h < n) place lt) ∙ sym place;
      below = λ le. omega (arith, left.within, place, le);
    }
