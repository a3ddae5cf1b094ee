-- Writes stay apart if a free one is added, and if some are taken out.
use Rattle.std.proofs.Common.{◌≡◌, ◌⊎◌, ⊎_elim, ℕ, zero, suc, Bool, true, false, not, List, [], ◌∷◌, Some, None, cond, ◌||◌, filter, refl, sym, ◌∙◌, ap, subst, arith, All, slice_get, ◌↔◌}
use Rattle.std.specs.List.{list_any}
use Rattle.std.proofs.lemmas.Bool.{cases_Bool, not-true, not_from_false, or_cases}
use Rattle.std.proofs.lemmas.List.Folds.{list_any-append}
use Rattle.std.proofs.lemmas.List.Elements.{All-nil, All-cons, All-head, All-tail}
use Rattle.tuples.specs.declared.tuple.Tuple.{Tuple}
use Rattle.tuples.specs.declared.entry.Entry.{Entry}
use Rattle.tuples.specs.declared.entry.WriteId.{WriteId}
use Rattle.tuples.specs.Changes.{changed, conditioned, has_tuple}
use Rattle.tuples.specs.Log.{same_id}
use Rattle.tuples.specs.Order.{tuple_eq}
use Rattle.tuples.proofs.Same.{tuple_same}
use Rattle.records.specs.declared.record.PlacedId.{PlacedId}
use Rattle.records.specs.Replays.{find_in_doubt, is_held, named, put, without, without_placed_ids}
use Rattle.holds.specs.Holds.{AreApart, IsFree}
use Rattle.holds.proofs.Doubts.{same_id_refl, without_filter}
use Rattle.holds.proofs.Put.{put_cases, put_or_there}

-- what is left by a test was there before
still_there : {X : Type 0} (p : X → Bool) (xs : List X) (j : ℕ) (y : X) → slice_get (filter p xs) j ≡ Some y → (k : ℕ) × (slice_get xs k ≡ Some y)
still_there p [] j y is = absurd cc
still_there p (x ∷ xs) j y is = ⊎_elim
    (λ yes. at_first p x xs j y (ap (λ (b : Bool). slice_get (cond b (x ∷ filter p xs) (filter p xs)) j) (sym yes) ∙ is) (still_there p xs))
    (λ no. let old = still_there p xs j y (ap (λ (b : Bool). slice_get (cond b (x ∷ filter p xs) (filter p xs)) j) (sym no) ∙ is) in (suc old.0, old.1))
    (cases_Bool (p x))
  where
    at_first : {X : Type 0} (p : X → Bool) (x : X) (xs : List X) (j : ℕ) (y : X) → slice_get (x ∷ filter p xs) j ≡ Some y → ((i : ℕ) (z : X) → slice_get (filter p xs) i ≡ Some z → (k : ℕ) × (slice_get xs k ≡ Some z)) → (k : ℕ) × (slice_get (x ∷ xs) k ≡ Some y)
    at_first p x xs zero y is more = (0, is)
    at_first p x xs (suc j) y is more = let old = more j y is in (suc old.0, old.1)

-- writes of which no two stand in the relation
module _ (R : Entry → Entry → Type 0) (turned : (v w : Entry) → R v w → R w v) where
  abbrev Apart : List Entry → Type 0
  Apart ws = (i j : ℕ) (v w : Entry) → slice_get ws i ≡ Some v → slice_get ws j ≡ Some w → R v w → i ≡ j

  -- none of the writes is in the relation to this one
  abbrev NoneOf : List Entry → Entry → Type 0
  NoneOf ws w = (j : ℕ) (v : Entry) → slice_get ws j ≡ Some v → R v w → ⊥

  apart_head : (w : Entry) (ws : List Entry) → Apart (w ∷ ws) → NoneOf ws w
  apart_head w ws apart j v at are = let h : suc j ≡ 0 = apart (suc j) 0 v w at refl are in absurd (omega (arith, h))

  apart_tail : (w : Entry) (ws : List Entry) → Apart (w ∷ ws) → Apart ws
  apart_tail w ws apart i j u v at_u at_v are = let h : suc i ≡ suc j = apart (suc i) (suc j) u v at_u at_v are in omega (arith, h)

  apart_cons : (w : Entry) (ws : List Entry) → Apart ws → NoneOf ws w → Apart (w ∷ ws)
  apart_cons w ws apart none zero zero u v at_u at_v are = refl
  apart_cons w ws apart none zero (suc j) u v at_u at_v are = let same : w ≡ u = cc in absurd (none j v at_v (turned w v (subst (λ (x : Entry). R x v) (sym same) are)))
  apart_cons w ws apart none (suc i) zero u v at_u at_v are = let same : w ≡ v = cc in absurd (none i u at_u (subst (λ (x : Entry). R u x) (sym same) are))
  apart_cons w ws apart none (suc i) (suc j) u v at_u at_v are = let h : i ≡ j = apart i j u v at_u at_v are in omega (arith, h)

  none_behind : (ws : List Entry) (w v : Entry) → NoneOf ws v → (R w v → ⊥) → NoneOf (put w ws) v
  none_behind ws w v none other j u at are = ⊎_elim
      (λ new. other (subst (λ (x : Entry). R x v) new are))
      (λ old. none old.0 u old.1 are)
      (put_or_there w ws j u at)

  none_tail : (v : Entry) (ws : List Entry) (w : Entry) → NoneOf (v ∷ ws) w → NoneOf ws w
  none_tail v ws w none j u at = none (suc j) u at

  -- a write that is in the relation to none of the others
  pub apart_put : (ws : List Entry) (w : Entry) → Apart ws → NoneOf ws w → Apart (put w ws)
  apart_put [] w apart none = apart_cons w [] apart none
  apart_put (v ∷ ws) w apart none = put_cases Apart w v ws
      (λ less. apart_cons w (v ∷ ws) apart none)
      (λ same. apart_cons w ws (apart_tail v ws apart) (none_tail v ws w none))
      (λ greater other. apart_cons v (put w ws) (apart_put ws w (apart_tail v ws apart) (none_tail v ws w none)) (none_behind ws w v (apart_head v ws apart) (λ are. none zero v refl (turned w v are))))

  pub apart_filter : (p : Entry → Bool) (ws : List Entry) → Apart ws → Apart (filter p ws)
  apart_filter p [] apart = apart
  apart_filter p (w ∷ ws) apart =
      let rest = apart_filter p ws (apart_tail w ws apart) in
      ⊎_elim
      (λ yes. subst (λ (b : Bool). Apart (cond b (w ∷ filter p ws) (filter p ws))) (sym yes) (apart_cons w (filter p ws) rest (λ j v at are. let old = still_there p ws j v at in apart_head w ws apart old.0 v old.1 are)))
      (λ no. subst (λ (b : Bool). Apart (cond b (w ∷ filter p ws) (filter p ws))) (sym no) rest)
      (cases_Bool (p w))

-- they name one tuple
abbrev Share : Entry → Entry → Type 0
Share v w = (t : Tuple) × (has_tuple t (named v) ≡ true) × (has_tuple t (named w) ≡ true)

share_turned : (v w : Entry) → Share v w → Share w v
share_turned v w s = (s.0, s.2, s.1)

abbrev SameId : Entry → Entry → Type 0
SameId v w = v.id ≡ w.id

id_turned : (v w : Entry) → SameId v w → SameId w v
id_turned v w is = sym is

-- ---- a write that is free is apart from those that are held

none_by_id : (ws : List Entry) (w : Entry) → find_in_doubt w.id ws ≡ None → (j : ℕ) (v : Entry) → slice_get ws j ≡ Some v → v.id ≡ w.id → ⊥
none_by_id [] w none j v at is = absurd cc
none_by_id (u ∷ ws) w none zero v at is =
    let here : u ≡ v = cc in
    let same : same_id u.id w.id ≡ true = ap (λ (i : WriteId). same_id i w.id) (ap (λ (x : Entry). x.id) here ∙ is) ∙ same_id_refl w.id in
    let found : Some u ≡ None = ap (λ (b : Bool). cond b (Some u) (find_in_doubt w.id ws)) (sym same) ∙ none in
    absurd cc
none_by_id (u ∷ ws) w none (suc j) v at is = ⊎_elim
    (λ yes. let found : Some u ≡ None = ap (λ (b : Bool). cond b (Some u) (find_in_doubt w.id ws)) (sym yes) ∙ none in absurd cc)
    (λ no. none_by_id ws w (ap (λ (b : Bool). cond b (Some u) (find_in_doubt w.id ws)) (sym no) ∙ none) j v at is)
    (cases_Bool (same_id u.id w.id))

-- a tuple that one of the writes names is held
pub held_by : (ws : List Entry) (j : ℕ) (v : Entry) (t : Tuple) → slice_get ws j ≡ Some v → has_tuple t (named v) ≡ true → is_held t ws ≡ true
held_by [] j v t at has = absurd cc
held_by (u ∷ ws) zero v t at has =
    let here : u ≡ v = cc in
    let is : has_tuple t (named u) ≡ true = ap (λ (x : Entry). has_tuple t (named x)) here ∙ has in
    ap (λ (b : Bool). cond b true (is_held t ws)) is
held_by (u ∷ ws) (suc j) v t at has = ⊎_elim
    (λ yes. ap (λ (b : Bool). cond b true (is_held t ws)) yes)
    (λ no. ap (λ (b : Bool). cond b true (is_held t ws)) no ∙ held_by ws j v t at has)
    (cases_Bool (has_tuple t (named u)))

-- a tuple of the list is free if all of it are
pub free_one : (ws : List Entry) (ts : List Tuple) (t : Tuple) → All (λ (u : Tuple). is_held u ws ≡ false) ts → has_tuple t ts ≡ true → is_held t ws ≡ false
free_one ws [] t free has = absurd cc
free_one ws (u ∷ ts) t free has = ⊎_elim
    (λ here. ap (λ (x : Tuple). is_held x ws) (tuple_same t u here) ∙ All-head (λ (u : Tuple). is_held u ws ≡ false) u ts free)
    (λ there. free_one ws ts t (All-tail (λ (u : Tuple). is_held u ws ≡ false) u ts free) there)
    (or_cases (tuple_eq t u) (has_tuple t ts) has)

pub apart_none : AreApart []
apart_none = record { tuples = λ i j v w at_v at_w t a b. absurd cc; ids = λ i j v w at_v at_w is. absurd cc }

pub apart_taken : (ws : List Entry) (w : Entry) → AreApart ws → IsFree ws w → AreApart (put w ws)
apart_taken ws w apart free = record {
  tuples = λ i j u v at_u at_v t in_u in_v. apart_put Share share_turned ws w (λ i j u v at_u at_v s. apart.tuples i j u v at_u at_v s.0 s.1 s.2)
      (λ j v at s. let held = held_by ws j v s.0 at s.1 in let none = free_one ws (named w) s.0 free.tuples s.2 in absurd cc)
      i j u v at_u at_v (t, in_u, in_v);
  ids = apart_put SameId id_turned ws w apart.ids (none_by_id ws w free.new);
}

apart_filtered : (p : Entry → Bool) (ws : List Entry) → AreApart ws → AreApart (filter p ws)
apart_filtered p ws apart = record {
  tuples = λ i j u v at_u at_v t in_u in_v. apart_filter Share share_turned p ws (λ i j u v at_u at_v s. apart.tuples i j u v at_u at_v s.0 s.1 s.2) i j u v at_u at_v (t, in_u, in_v);
  ids = apart_filter SameId id_turned p ws apart.ids;
}

pub apart_without : (id : WriteId) (ws : List Entry) → AreApart ws → AreApart (without id ws)
apart_without id ws apart = subst AreApart (sym (without_filter id ws)) (apart_filtered (λ (w : Entry). not (same_id w.id id)) ws apart)

pub apart_without_placed_ids : (placed_ids : List PlacedId) (ws : List Entry) → AreApart ws → AreApart (without_placed_ids placed_ids ws)
apart_without_placed_ids [] ws apart = apart
apart_without_placed_ids (p ∷ placed_ids) ws apart = apart_without_placed_ids placed_ids (without p.id ws) (apart_without p.id ws apart)

-- ---- the test of what is free

free_from : (ws : List Entry) (ts : List Tuple) → list_any (λ (t : Tuple). is_held t ws) ts ≡ false → All (λ (t : Tuple). is_held t ws ≡ false) ts
free_from ws [] none = All-nil _
free_from ws (t ∷ ts) none = ⊎_elim
    (λ yes. let some : true ≡ false = ap (λ (b : Bool). b || list_any (λ (t : Tuple). is_held t ws) ts) (sym yes) ∙ none in absurd cc)
    (λ no. All-cons (λ (t : Tuple). is_held t ws ≡ false) t ts no (free_from ws ts (ap (λ (b : Bool). b || list_any (λ (t : Tuple). is_held t ws) ts) (sym no) ∙ none)))
    (cases_Bool (is_held t ws))

free_to : (ws : List Entry) (ts : List Tuple) → All (λ (t : Tuple). is_held t ws ≡ false) ts → list_any (λ (t : Tuple). is_held t ws) ts ≡ false
free_to ws [] free = refl
free_to ws (t ∷ ts) free =
    ap (λ (b : Bool). b || list_any (λ (t : Tuple). is_held t ws) ts) (All-head (λ (t : Tuple). is_held t ws ≡ false) t ts free)
    ∙ free_to ws ts (All-tail (λ (t : Tuple). is_held t ws ≡ false) t ts free)

-- whether one of the tuples is held
abbrev one_held : List Entry → List Tuple → Bool
one_held ws = list_any (λ (t : Tuple). is_held t ws)

one_of_two : (ws : List Entry) (w : Entry) → one_held ws (named w) ≡ (one_held ws (changed w.changes) || one_held ws (conditioned w.conditions))
one_of_two ws w = list_any-append (λ (t : Tuple). is_held t ws) (changed w.changes) (conditioned w.conditions)

pub not_free : (ws : List Entry) (w : Entry) → list_any (λ (t : Tuple). is_held t ws) (changed w.changes) ≡ true → IsFree ws w → ⊥
not_free ws w some free =
    let none = free_to ws (named w) free.tuples in
    let held : one_held ws (named w) ≡ true = one_of_two ws w ∙ ap (λ (b : Bool). b || one_held ws (conditioned w.conditions)) some in
    absurd cc

-- a write whose id is new, and whose changes are free, is free if its conditions are
pub free_decides : (ws : List Entry) (w : Entry) → find_in_doubt w.id ws ≡ None → list_any (λ (t : Tuple). is_held t ws) (changed w.changes) ≡ false → (not (list_any (λ (t : Tuple). is_held t ws) (conditioned w.conditions)) ≡ true) ↔ IsFree ws w
free_decides ws w new changes =
    let same : one_held ws (named w) ≡ one_held ws (conditioned w.conditions) = one_of_two ws w ∙ ap (λ (b : Bool). b || one_held ws (conditioned w.conditions)) changes in (
      λ is. record { new = new; tuples = free_from ws (named w) (same ∙ not-true _ is) },
      λ free. not_from_false _ (sym same ∙ free_to ws (named w) free.tuples),
    )
