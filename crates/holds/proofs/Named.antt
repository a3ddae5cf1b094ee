-- A set of tuples to which those of writes are added, and from which they are taken.
use Rattle.std.proofs.Common.{◌≡◌, ℕ, zero, suc, Bool, true, false, not, cond, ◌+◌, ◌<◌, ◌||◌, ◌&&◌, List, [], ◌∷◌, ◌++◌, map, take, length, get_or, Some, None, slice_get, Option, Result, Ok, Err, refl, sym, ◌∙◌, ap, inl, inr, arith}
use Rattle.std.specs.Prelude.{OnOk}
use Rattle.std.specs.Result.{is_err}
use Rattle.std.specs.List.{list_any}
use Rattle.std.specs.Ordering.{is_eq}
use Rattle.std.proofs.lemmas.Bool.{cases_Bool}
use Rattle.std.proofs.lemmas.List.{map-append, take_more}
use Rattle.std.proofs.lemmas.List.Folds.{list_any-append}
use Rattle.std.proofs.Math.Bool.{or-false}
use Rattle.tuples.specs.contracts.tuple.TupleOrd.TheImpl.{ghosts}
use Rattle.tuples.specs.declared.tuple.Tuple.{Tuple}
use Rattle.tuples.specs.declared.entry.Entry.{Entry}
use Rattle.tuples.specs.declared.entry.WriteId.{WriteId}
use Rattle.tuples.specs.Changes.{has_tuple}
use Rattle.tuples.specs.Log.{same_id}
use Rattle.tuples.specs.Order.{tuple_eq}
use Rattle.tuples.proofs.Ordered.{tuple_eq_symm, same_tie}
use Rattle.records.specs.Replays.{find_in_doubt, is_held, named, put, without}
use Rattle.holds.specs.Holds.{AreApart, is_in}
use Rattle.holds.proofs.Doubts.{found_id, same_id_refl, same_id_true}
use Rattle.holds.proofs.Put.{put_cases}

or_cond : (b c : Bool) → cond b true c ≡ (b || c)
or_cond true c = refl
or_cond false c = refl

and_cond : (b c : Bool) → cond b false c ≡ (not b && c)
and_cond true c = refl
and_cond false c = refl

-- a tuple that is put in, or taken out
pub put_in : (old new : List Tuple) (u t : Tuple) → is_in new t ≡ cond (is_eq (ghosts.cmp u t)) true (is_in old t) → is_in new t ≡ (tuple_eq t u || is_in old t)
put_in old new u t is = is ∙ ap (λ (b : Bool). cond b true (is_in old t)) (same_tie u t ∙ tuple_eq_symm u t) ∙ or_cond (tuple_eq t u) (is_in old t)

pub taken_out : (old new : List Tuple) (u t : Tuple) → is_in new t ≡ cond (is_eq (ghosts.cmp u t)) false (is_in old t) → is_in new t ≡ (not (tuple_eq t u) && is_in old t)
taken_out old new u t is = is ∙ ap (λ (b : Bool). cond b false (is_in old t)) (same_tie u t ∙ tuple_eq_symm u t) ∙ and_cond (tuple_eq t u) (is_in old t)

-- ---- the tuples of a list so far

module _ {X : Type 0} (tuple : X → Tuple) where
  pub has_more : (t : Tuple) (xs : List X) (i : ℕ) (x : X) → i < length xs → x ≡ get_or xs i x → has_tuple t (map tuple (take (i + 1) xs)) ≡ (has_tuple t (map tuple (take i xs)) || tuple_eq t (tuple x))
  has_more t xs i x within at =
      ap (λ (l : List X). has_tuple t (map tuple l)) (take_more xs i x within ∙ ap (λ (y : X). take i xs ++ y ∷ []) (sym at))
      ∙ ap (has_tuple t) (map-append tuple (take i xs) (x ∷ []))
      ∙ list_any-append (tuple_eq t) (map tuple (take i xs)) (tuple x ∷ [])
      ∙ ap (λ (b : Bool). has_tuple t (map tuple (take i xs)) || b) (or-false (tuple_eq t (tuple x)))

  pub has_take : (t : Tuple) (xs : List X) (i : ℕ) → has_tuple t (map tuple xs) ≡ false → has_tuple t (map tuple (take i xs)) ≡ false
  has_take t xs zero none = refl
  has_take t [] (suc i) none = refl
  has_take t (x ∷ xs) (suc i) none = elim (cases_Bool (tuple_eq t (tuple x))) [
    | inl is ↦ absurd (let some : true ≡ false = ap (λ (b : Bool). b || has_tuple t (map tuple xs)) (sym is) ∙ none in cc)
    | inr apart ↦
        ap (λ (b : Bool). b || has_tuple t (map tuple (take i xs))) apart
        ∙ has_take t xs i (ap (λ (b : Bool). b || has_tuple t (map tuple xs)) (sym apart) ∙ none)
  ]

-- ---- the tuples of a write

-- ---- the writes that hold them

-- what is not found is not the first, and not found after it
pub none_parts : (id : WriteId) (v : Entry) (ws : List Entry) → find_in_doubt id (v ∷ ws) ≡ None → (same_id v.id id ≡ false) × (find_in_doubt id ws ≡ None)
none_parts id v ws none = elim (cases_Bool (same_id v.id id)) [
  | inl is ↦ absurd (let some : Some v ≡ None = ap (λ (b : Bool). cond b (Some v) (find_in_doubt id ws)) (sym is) ∙ none in cc)
  | inr other ↦ (other, ap (λ (b : Bool). cond b (Some v) (find_in_doubt id ws)) (sym other) ∙ none)
]

-- its id is that of the first, which it is not
not_instead : {P : Type 0} (w v : Entry) → same_id v.id w.id ≡ false → w.id ≡ v.id → P
not_instead w v apart same = absurd (let is : same_id v.id w.id ≡ true = ap (λ (i : WriteId). same_id i w.id) (sym same) ∙ same_id_refl w.id in cc)

-- a write that is held besides
pub held_put : (t : Tuple) (ws : List Entry) (w : Entry) → find_in_doubt w.id ws ≡ None → is_held t (put w ws) ≡ (has_tuple t (named w) || is_held t ws)
held_put t [] w none = or_cond (has_tuple t (named w)) false
held_put t (v ∷ ws) w none =
    let parts = none_parts w.id v ws none in
    put_cases (λ l. is_held t l ≡ (has_tuple t (named w) || is_held t (v ∷ ws))) w v ws
    (λ less. or_cond (has_tuple t (named w)) (is_held t (v ∷ ws)))
    (λ same. not_instead w v parts.0 same)
    (λ greater other. ap (λ (b : Bool). cond (has_tuple t (named v)) true b) (held_put t ws w parts.1) ∙ turned (has_tuple t (named v)) (has_tuple t (named w)) (is_held t ws))
  where
    turned : (a b c : Bool) → cond a true (b || c) ≡ (b || cond a true c)
    turned true true c = refl
    turned true false c = refl
    turned false b c = refl

-- a write that is not there takes none with it
pub without_none : (id : WriteId) (ws : List Entry) → find_in_doubt id ws ≡ None → without id ws ≡ ws
without_none id [] none = refl
without_none id (w ∷ ws) none = elim (cases_Bool (same_id w.id id)) [
  | inl is ↦ absurd (let some : Some w ≡ None = ap (λ (b : Bool). cond b (Some w) (find_in_doubt id ws)) (sym is) ∙ none in cc)
  | inr other ↦ rw other (ap (λ (l : List Entry). w ∷ l) (without_none id ws (ap (λ (b : Bool). cond b (Some w) (find_in_doubt id ws)) (sym other) ∙ none)))
]

-- a write that is put in its place and taken out again
pub without_put : (w : Entry) (ws : List Entry) → find_in_doubt w.id ws ≡ None → without w.id (put w ws) ≡ ws
without_put w [] none = ap (λ (b : Bool). cond b [] (w ∷ [])) (same_id_refl w.id)
without_put w (v ∷ ws) none =
    let parts = none_parts w.id v ws none in
    put_cases (λ l. without w.id l ≡ v ∷ ws) w v ws
    (λ less. ap (λ (b : Bool). cond b (without w.id (v ∷ ws)) (w ∷ without w.id (v ∷ ws))) (same_id_refl w.id) ∙ without_none w.id (v ∷ ws) none)
    (λ same. not_instead w v parts.0 same)
    (λ greater other. ap (λ (b : Bool). cond b (without w.id (put w ws)) (v ∷ without w.id (put w ws))) parts.0 ∙ ap (λ (l : List Entry). v ∷ l) (without_put w ws parts.1))

pub any_same : (f g : Tuple → Bool) → ((t : Tuple) → f t ≡ g t) → (ts : List Tuple) → list_any f ts ≡ list_any g ts
any_same f g same [] = refl
any_same f g same (t ∷ ts) = ap (λ (b : Bool). b || list_any f ts) (same t) ∙ ap (λ (b : Bool). g t || b) (any_same f g same ts)

-- ---- a write that is taken out

-- where a held tuple is named
held_at : (t : Tuple) (ws : List Entry) → is_held t ws ≡ true → (j : ℕ) × (w : Entry) × (slice_get ws j ≡ Some w) × (has_tuple t (named w) ≡ true)
held_at t [] is = absurd cc
held_at t (v ∷ ws) is = elim (cases_Bool (has_tuple t (named v))) [
  | inl here ↦ (0, v, refl, here)
  | inr past ↦ let more = held_at t ws (sym (ap (λ (b : Bool). cond b true (is_held t ws)) past) ∙ is) in (suc more.0, more.1, more.2, more.3)
]

pub found_at : (id : WriteId) (ws : List Entry) (w : Entry) → find_in_doubt id ws ≡ Some w → (j : ℕ) × (slice_get ws j ≡ Some w)
found_at id [] w is = absurd cc
found_at id (v ∷ ws) w is = elim (cases_Bool (same_id v.id id)) [
  | inl here ↦ (0, sym (ap (λ (b : Bool). cond b (Some v) (find_in_doubt id ws)) here) ∙ is)
  | inr past ↦ let more = found_at id ws w (sym (ap (λ (b : Bool). cond b (Some v) (find_in_doubt id ws)) past) ∙ is) in (suc more.0, more.1)
]

pub apart_rest : (v : Entry) (ws : List Entry) → AreApart (v ∷ ws) → AreApart ws
apart_rest v ws apart = record {
  tuples = λ i j u w at_u at_w t in_u in_w. let h : suc i ≡ suc j = apart.tuples (suc i) (suc j) u w at_u at_w t in_u in_w in omega (arith, h);
  ids = λ i j u w at_u at_w is. let h : suc i ≡ suc j = apart.ids (suc i) (suc j) u w at_u at_w is in omega (arith, h);
}

-- no other write names what the first one names
first_alone : (v : Entry) (ws : List Entry) (t : Tuple) → AreApart (v ∷ ws) → has_tuple t (named v) ≡ true → is_held t ws ≡ false
first_alone v ws t apart has = elim (cases_Bool (is_held t ws)) [
  | inl is ↦ let other = held_at t ws is in absurd (let h : suc other.0 ≡ 0 = apart.tuples (suc other.0) 0 other.1 v other.2 refl t other.3 has in omega (arith, h))
  | inr none ↦ none
]

-- no other one has the id of the first
first_new : (v : Entry) (ws : List Entry) (id : WriteId) → AreApart (v ∷ ws) → v.id ≡ id → find_in_doubt id ws ≡ None
first_new v ws id apart is = none_of (find_in_doubt id ws) refl
  where
    none_of : (o : Option Entry) → find_in_doubt id ws ≡ o → o ≡ None
    none_of None at = refl
    none_of (Some w) at =
        let place = found_at id ws w at in
        absurd (let h : suc place.0 ≡ 0 = apart.ids (suc place.0) 0 w v place.1 refl (found_id id ws w at ∙ sym is) in omega (arith, h))

-- without a write its tuples are free, and the others are held as before
pub held_without : (t : Tuple) (id : WriteId) (ws : List Entry) (w : Entry) → AreApart ws → find_in_doubt id ws ≡ Some w → is_held t (without id ws) ≡ (not (has_tuple t (named w)) && is_held t ws)
held_without t id [] w apart at = absurd cc
held_without t id (v ∷ ws) w apart at = elim (cases_Bool (same_id v.id id)) [
  | inl out ↦
      let same : v ≡ w = (let some : Some v ≡ Some w = ap (λ (b : Bool). cond b (Some v) (find_in_doubt id ws)) (sym out) ∙ at in cc) in
      let gone : without id ws ≡ ws = without_none id ws (first_new v ws id apart (same_id_true v.id id out)) in
      ap (λ (b : Bool). is_held t (cond b (without id ws) (v ∷ without id ws))) out
      ∙ ap (is_held t) gone
      ∙ own (has_tuple t (named v)) (is_held t ws) (first_alone v ws t apart)
      ∙ ap (λ (x : Entry). not (has_tuple t (named x)) && is_held t (v ∷ ws)) same
  | inr stays ↦
      let rest : find_in_doubt id ws ≡ Some w = sym (ap (λ (b : Bool). cond b (Some v) (find_in_doubt id ws)) stays) ∙ at in
      ap (λ (b : Bool). is_held t (cond b (without id ws) (v ∷ without id ws))) stays
      ∙ ap (λ (b : Bool). cond (has_tuple t (named v)) true b) (held_without t id ws w (apart_rest v ws apart) rest)
      ∙ other (has_tuple t (named v)) (has_tuple t (named w)) (is_held t ws) (λ has. not_both (has_tuple t (named w)) (λ also. let place = found_at id ws w rest in let h : suc place.0 ≡ 0 = apart.tuples (suc place.0) 0 w v place.1 refl t also has in omega (arith, h)))
]
  where
    own : (h r : Bool) → (h ≡ true → r ≡ false) → r ≡ (not h && cond h true r)
    own true r alone = alone refl
    own false r alone = refl

    other : (h o r : Bool) → (h ≡ true → o ≡ false) → cond h true (not o && r) ≡ (not o && cond h true r)
    other true o r alone = sym (ap (λ (b : Bool). not b && true) (alone refl))
    other false o r alone = refl

    not_both : (o : Bool) → (o ≡ true → ⊥) → o ≡ false
    not_both true never = absurd (never refl)
    not_both false never = refl

-- a write that was held in part, and let go
pub let_go_again : (n m o h f : Bool) → n ≡ (not h && m) → (h ≡ false → m ≡ o) → o ≡ f → (h ≡ true → f ≡ false) → n ≡ f
let_go_again n m o true f is others same free = is ∙ sym (free refl)
let_go_again n m o false f is others same free = is ∙ others refl ∙ same

-- what an `Ok` says, if it is not an error
pub from_ok : {A E P : Type 0} (r : Result A E) → is_err r ≡ false → OnOk r P → P
from_ok (Ok a) no_error p = p
from_ok (Err e) no_error p = absurd cc
