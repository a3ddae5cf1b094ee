-- The map of places is right once a decision is awaited, and once the first is forgotten.
use Rattle.std.proofs.Common.{◌≡◌, ◌≢◌, ⊎_elim, ℕ, zero, suc, ◌+◌, true, false, List, [], ◌∷◌, ◌++◌, length, map, Option, Some, None, MatchOption, refl, sym, ◌∙◌, ap, subst, arith, if◌then◌else◌, slice_get}
use Rattle.std.proofs.lemmas.Bool.{cases_Bool}
use Rattle.tuples.specs.declared.entry.Entry.{Entry}
use Rattle.tuples.specs.declared.entry.WriteId.{WriteId}
use Rattle.tuples.specs.Log.{same_id}
use Rattle.holds.proofs.Doubts.{same_id_other, same_id_refl, same_id_true}
use Rattle.ledger.specs.Ledgers.{AreApart, IsOther, IsPlaceOf, id_of, place_of}

not_same : (a b : WriteId) → same_id a b ≡ false → same_id b a ≡ false
not_same a b differ = ⊎_elim
    (λ yes. absurd (let e : same_id a b ≡ true = ap (same_id a) (same_id_true b a yes) ∙ same_id_refl a in cc))
    (λ is. is)
    (cases_Bool (same_id b a))

first_none : (i id : WriteId) (base : ℕ) (ids : List WriteId) → place_of id base (i ∷ ids) ≡ None → (same_id i id ≡ false) × (place_of id (base + 1) ids ≡ None)
first_none i id base ids none = ⊎_elim
    (λ yes. absurd (let e : Some (base + 1) ≡ None = ap (λ c. if c then Some (base + 1) else place_of id (base + 1) ids) (sym yes) ∙ none in cc))
    (λ differ. (differ, ap (λ c. if c then Some (base + 1) else place_of id (base + 1) ids) (sym differ) ∙ none))
    (cases_Bool (same_id i id))

-- one more id
pub place_pushed : (id new : WriteId) (base : ℕ) (ids : List WriteId) → place_of new base ids ≡ None
    → place_of id base (ids ++ new ∷ []) ≡ (if same_id new id then Some (base + length ids + 1) else place_of id base ids)
place_pushed id new base [] none = ap (λ (n : ℕ). if same_id new id then Some n else None) (let e : base + 1 ≡ base + 0 + 1 = omega arith in e)
place_pushed id new base (i ∷ ids) none =
    let first = first_none i new base ids none in
    ⊎_elim
    (λ here. let ne : same_id new id ≡ false = not_same id new (subst (λ (x : WriteId). same_id x new ≡ false) (same_id_true i id here) first.0) in rw here (rw ne refl))
    (λ further. ap (λ c. if c then Some (base + 1) else place_of id (base + 1) (ids ++ new ∷ [])) further
    ∙ place_pushed id new (base + 1) ids first.1
    ∙ ap (λ (n : ℕ). if same_id new id then Some n else place_of id (base + 1) ids) (let e : base + 1 + length ids + 1 ≡ base + suc (length ids) + 1 = omega arith in e)
    ∙ ap (λ o. if same_id new id then Some (base + suc (length ids) + 1) else o) (sym (ap (λ c. if c then Some (base + 1) else place_of id (base + 1) ids) further)))
    (cases_Bool (same_id i id))

-- the first is forgotten
pub place_dropped : (id i : WriteId) (base : ℕ) (ids : List WriteId) → AreApart (i ∷ ids)
    → (if same_id i id then None else place_of id base (i ∷ ids)) ≡ place_of id (base + 1) ids
place_dropped id i base ids apart = ⊎_elim
    (λ here. rw here (subst (λ (x : WriteId). None ≡ place_of x (base + 1) ids) (same_id_true i id here) (sym (apart.0 (base + 1)))))
    (λ further. rw further refl)
    (cases_Bool (same_id i id))

pub apart_pushed : (ids : List WriteId) (new : WriteId) → AreApart ids → ((base : ℕ) → place_of new base ids ≡ None) → AreApart (ids ++ new ∷ [])
apart_pushed [] new apart none = ((λ base. refl), tt)
apart_pushed (i ∷ ids) new apart none =
    let first : same_id i new ≡ false = (first_none i new 0 ids (none 0)).0 in (
      (λ base. place_pushed i new base ids (rest_none base) ∙ ap (λ c. if c then Some (base + length ids + 1) else place_of i base ids) (not_same i new first) ∙ apart.0 base),
      apart_pushed ids new apart.1 rest_none,
    )
  where
    shift : (l : List WriteId) (a b : ℕ) → place_of new a l ≡ None → place_of new b l ≡ None
    shift [] a b none_here = refl
    shift (x ∷ l) a b none_here = let f = first_none x new a l none_here in rw f.0 (shift l (a + 1) (b + 1) f.1)

    rest_none : (b : ℕ) → place_of new b ids ≡ None
    rest_none b = shift ids 1 b (first_none i new 0 ids (none 0)).1

other_tail : (id : WriteId) (w : Entry) (log : List Entry) → IsOther id (w ∷ log) → IsOther id log
other_tail id w log other j v is = other (suc j) v is

-- an id that no write has is at no place
pub other_none : (id : WriteId) (log : List Entry) → IsOther id log → (base : ℕ) → place_of id base (map id_of log) ≡ None
other_none id [] other base = refl
other_none id (w ∷ log) other base = rw (same_id_other w.id id (other zero w refl)) (other_none id log (other_tail id w log other) (base + 1))

differ_apart : (w : Entry) (id : WriteId) → same_id w.id id ≡ false → w.id ≢ id
differ_apart w id differ same = let e : same_id w.id id ≡ true = ap (same_id w.id) (sym same) ∙ same_id_refl w.id in let f : true ≡ false = sym e ∙ differ in absurd cc

-- no write has an id that is at no place
none_other : (id : WriteId) (base : ℕ) (log : List Entry) → place_of id base (map id_of log) ≡ None → IsOther id log
none_other id base [] none j v there same = absurd cc
none_other id base (w ∷ log) none zero v there same =
    let is : w ≡ v = cc in differ_apart w id (first_none w.id id base (map id_of log) none).0 (ap (λ (x : Entry). x.id) is ∙ same)
none_other id base (w ∷ log) none (suc j) v there same = none_other id (base + 1) log (first_none w.id id base (map id_of log) none).1 j v there same

-- what is found is the one place of the write
pub found_place : (id : WriteId) (base : ℕ) (log : List Entry) (o : Option ℕ) → AreApart (map id_of log) → o ≡ place_of id base (map id_of log) → MatchOption o (IsOther id log) (IsPlaceOf id base log)
found_place id base [] o apart is = subst (λ p. MatchOption p (IsOther id []) (IsPlaceOf id base [])) (sym is) (λ j w there. absurd cc)
found_place id base (w ∷ log) o apart is = ⊎_elim
    (λ here. subst (λ p. MatchOption p (IsOther id (w ∷ log)) (IsPlaceOf id base (w ∷ log))) (sym (is ∙ ap (λ c. if c then Some (base + 1) else place_of id (base + 1) (map id_of log)) here))
    (record { index = 0; write = w; there = refl; same = same_id_true w.id id here; is = omega arith; only = first_alone (same_id_true w.id id here) }))
    (λ further. later o (found_place id (base + 1) log o apart.1 (is ∙ ap (λ c. if c then Some (base + 1) else place_of id (base + 1) (map id_of log)) further)) (differ_apart w id further))
    (cases_Bool (same_id w.id id))
  where
    rest_others : IsOther w.id log
    rest_others = none_other w.id 0 log (apart.0 0)

    first_alone : w.id ≡ id → (j : ℕ) (v : Entry) → slice_get (w ∷ log) j ≡ Some v → v.id ≡ id → j ≡ 0
    first_alone same zero v there its = refl
    first_alone same (suc j) v there its = absurd (rest_others j v there (its ∙ sym same))

    others : w.id ≢ id → IsOther id log → IsOther id (w ∷ log)
    others ne rest zero v there same = ne (let e : w ≡ v = cc in ap (λ (x : Entry). x.id) e ∙ same)
    others ne rest (suc j) v there same = rest j v there same

    not_first : w.id ≢ id → (index : ℕ) → ((j : ℕ) (v : Entry) → slice_get log j ≡ Some v → v.id ≡ id → j ≡ index) → (j : ℕ) (v : Entry) → slice_get (w ∷ log) j ≡ Some v → v.id ≡ id → j ≡ suc index
    not_first ne index only zero v there its = absurd (ne (let e : w ≡ v = cc in ap (λ (x : Entry). x.id) e ∙ its))
    not_first ne index only (suc j) v there its = ap suc (only j v there its)

    later : (p : Option ℕ) → MatchOption p (IsOther id log) (IsPlaceOf id (base + 1) log) → w.id ≢ id → MatchOption p (IsOther id (w ∷ log)) (IsPlaceOf id base (w ∷ log))
    later None rest ne = others ne rest
    later (Some n) rest ne = record { index = suc rest.index; write = rest.write; there = rest.there; same = rest.same; is = omega (arith, rest.is); only = not_first ne rest.index rest.only }
