-- The last change of a tuple, and whether it is there, by the last writes of a log alone.
use Rattle.std.proofs.Common.{◌≡◌, ◌⊎◌, ⊎_elim, ℕ, Bool, true, false, ◌+◌, ◌||◌, List, [], ◌∷◌, ◌++◌, length, refl, sym, ◌∙◌, ap, arith, cond}
use Rattle.std.specs.List.{flat_map, list_any}
use Rattle.std.proofs.lemmas.Bool.{or_cases, or_left, or_right}
use Rattle.std.proofs.lemmas.Grind.{flat_map-append}
use Rattle.std.proofs.lemmas.List.{map-append, take_all}
use Rattle.std.proofs.lemmas.List.Folds.{list_any-append}
use Rattle.tuples.specs.declared.tuple.Tuple.{Tuple}
use Rattle.tuples.specs.declared.change.Change.{Change}
use Rattle.tuples.specs.declared.change.Change.TheVariants.{Touch, Delete}
use Rattle.tuples.specs.declared.entry.Entry.{Entry}
use Rattle.tuples.specs.Changes.{changed, has_tuple, tuple_of}
use Rattle.tuples.specs.Log.{is_at, last_from, there_after}
use Rattle.tuples.specs.Order.{tuple_eq}

pub there_both : (t : Tuple) (b : Bool) (xs ys : List Change) → there_after t b (xs ++ ys) ≡ there_after t (there_after t b xs) ys
there_both t b [] ys = refl
there_both t b (Touch u ∷ xs) ys = there_both t (cond (tuple_eq t u) true b) xs ys
there_both t b (Delete u ∷ xs) ys = there_both t (cond (tuple_eq t u) false b) xs ys

-- whether it is there after all of a log
pub there_last : (t : Tuple) (log : List Entry) → is_at log (length log) t ≡ there_after t false (flat_map (λ (w : Entry). w.changes) log)
unfolding is_at
there_last t log = ap (λ (l : List Entry). there_after t false (flat_map (λ (w : Entry). w.changes) l)) (take_all (length log) log (omega arith))

-- what changes that name a tuple leave does not depend on what was there before
pub there_changed : (t : Tuple) (a b : Bool) (changes : List Change) → has_tuple t (changed changes) ≡ true → there_after t a changes ≡ there_after t b changes
there_changed t a b [] has = absurd cc
there_changed t a b (Touch u ∷ changes) has = ⊎_elim
    (λ here. rw here refl)
    (λ later. there_changed t (cond (tuple_eq t u) true a) (cond (tuple_eq t u) true b) changes later)
    (or_cases (tuple_eq t u) (has_tuple t (changed changes)) has)
there_changed t a b (Delete u ∷ changes) has = ⊎_elim
    (λ here. rw here refl)
    (λ later. there_changed t (cond (tuple_eq t u) false a) (cond (tuple_eq t u) false b) changes later)
    (or_cases (tuple_eq t u) (has_tuple t (changed changes)) has)

-- nor on the place found so far
pub last_changed : (t : Tuple) (a b place : ℕ) (log : List Entry) → list_any (λ (w : Entry). has_tuple t (changed w.changes)) log ≡ true → last_from a place t log ≡ last_from b place t log
last_changed t a b place [] has = absurd cc
last_changed t a b place (w ∷ log) has = ⊎_elim
    (λ here. rw here refl)
    (λ later. last_changed t (cond (has_tuple t (changed w.changes)) place a) (cond (has_tuple t (changed w.changes)) place b) (place + 1) log later)
    (or_cases (has_tuple t (changed w.changes)) (list_any (λ (v : Entry). has_tuple t (changed v.changes)) log) has)

pub changed_by_log : (t : Tuple) (log : List Entry) → list_any (λ (w : Entry). has_tuple t (changed w.changes)) log ≡ true → has_tuple t (changed (flat_map (λ (w : Entry). w.changes) log)) ≡ true
changed_by_log t [] has = absurd cc
changed_by_log t (w ∷ log) has =
    let rest = flat_map (λ (v : Entry). v.changes) log in
    let split : has_tuple t (changed (w.changes ++ rest)) ≡ (has_tuple t (changed w.changes) || has_tuple t (changed rest)) =
    ap (has_tuple t) (map-append tuple_of w.changes rest) ∙ list_any-append (tuple_eq t) (changed w.changes) (changed rest) in
    ⊎_elim
    (λ here. split ∙ or_left (has_tuple t (changed w.changes)) (has_tuple t (changed rest)) here)
    (λ later. split ∙ or_right (has_tuple t (changed w.changes)) (has_tuple t (changed rest)) (changed_by_log t log later))
    (or_cases (has_tuple t (changed w.changes)) (list_any (λ (v : Entry). has_tuple t (changed v.changes)) log) has)

pub last_from-append : (found place : ℕ) (t : Tuple) (xs ys : List Entry) → last_from found place t (xs ++ ys) ≡ last_from (last_from found place t xs) (place + length xs) t ys
last_from-append found place t [] ys = ap (λ n. last_from found n t ys) (let e : place ≡ place + 0 = omega arith in e)
last_from-append found place t (w ∷ xs) ys =
    let at = cond (has_tuple t (changed w.changes)) place found in
    last_from-append at (place + 1) t xs ys
    ∙ ap (λ n. last_from (last_from at (place + 1) t xs) n t ys) (let e : place + 1 + length xs ≡ place + length (w ∷ xs) = omega arith in e)

-- the writes after others change the tuple, or these others are none of a whole log
module _ (base : ℕ) (t : Tuple) (ys : List Entry) where
  pub last_behind : (xs : List Entry) → (base + length xs ≡ 0) ⊎ (list_any (λ (w : Entry). has_tuple t (changed w.changes)) ys ≡ true) → last_from 0 (base + 1) t (xs ++ ys) ≡ last_from 0 (base + length xs + 1) t ys
  last_behind [] enough = ap (λ n. last_from 0 n t ys) (let e : base + 1 ≡ base + 0 + 1 = omega arith in e)
  last_behind (x ∷ xs) enough = ⊎_elim
      (λ none. absurd (omega (arith, none)))
      (λ has.
      last_from-append 0 (base + 1) t (x ∷ xs) ys
      ∙ last_changed t (last_from 0 (base + 1) t (x ∷ xs)) 0 (base + 1 + length (x ∷ xs)) ys has
      ∙ ap (λ n. last_from 0 n t ys) (let e : base + 1 + length (x ∷ xs) ≡ base + length (x ∷ xs) + 1 = omega arith in e))
      enough

  pub there_behind : (xs : List Entry) → (base + length xs ≡ 0) ⊎ (list_any (λ (w : Entry). has_tuple t (changed w.changes)) ys ≡ true) → is_at (xs ++ ys) (length (xs ++ ys)) t ≡ is_at ys (length ys) t
  there_behind [] enough = refl
  there_behind (x ∷ xs) enough = ⊎_elim
      (λ none. absurd (omega (arith, none)))
      (λ has.
      let of_log = λ (l : List Entry). flat_map (λ (w : Entry). w.changes) l in
      there_last t (x ∷ xs ++ ys)
      ∙ ap (there_after t false) (flat_map-append (λ (w : Entry). w.changes) (x ∷ xs) ys)
      ∙ there_both t false (of_log (x ∷ xs)) (of_log ys)
      ∙ there_changed t (there_after t false (of_log (x ∷ xs))) false (of_log ys) (changed_by_log t ys has)
      ∙ sym (there_last t ys))
      enough
