-- Writes in doubt, those that are added, and those that are taken out.
use Rattle.std.proofs.Common.{◌≡◌, ◌⊎◌, inl, inr, ⊎_elim, ℕ, true, false, not, List, filter, [], ◌∷◌, Some, None, refl, sym, ◌∙◌, ap, cond}
use Rattle.std.proofs.lemmas.Bool.{eqb-true, eq-eqb, cases_Bool, and_parts, and_from, both_ways}
use Rattle.tuples.specs.declared.entry.Entry.{Entry}
use Rattle.tuples.specs.declared.entry.WriteId.{WriteId}
use Rattle.tuples.specs.Log.{same_id}
use Rattle.records.specs.declared.record.PlacedId.{PlacedId}
use Rattle.records.specs.Replays.{find_in_doubt, without, without_placed_ids}

pub same_id_true : (a b : WriteId) → same_id a b ≡ true → a ≡ b
same_id_true a b is =
    let parts = and_parts _ _ is in
    let e : a.epoch ≡ b.epoch = eqb-true _ _ parts.0 in
    let n : a.number ≡ b.number = eqb-true _ _ parts.1 in
    let id : ℕ → ℕ → WriteId = λ x y. record { epoch = x; number = y } in
    ap (λ (x : ℕ). id x a.number) e ∙ ap (λ (y : ℕ). id b.epoch y) n

pub same_id_refl : (a : WriteId) → same_id a a ≡ true
same_id_refl a = and_from _ _ (eq-eqb a.epoch a.epoch refl) (eq-eqb a.number a.number refl)

pub cases_id : (a b : WriteId) → (a ≡ b) ⊎ (a ≡ b → ⊥)
cases_id a b = ⊎_elim (λ yes. inl (same_id_true a b yes)) (λ no. inr (λ is. both_ways _ no (ap (λ (c : WriteId). same_id a c) (sym is) ∙ same_id_refl a))) (cases_Bool (same_id a b))

pub same_id_other : (a b : WriteId) → (a ≡ b → ⊥) → same_id a b ≡ false
same_id_other a b ne = ⊎_elim (λ yes. absurd (ne (same_id_true a b yes))) (λ no. no) (cases_Bool (same_id a b))

-- what is found has the id
pub found_id : (id : WriteId) (ws : List Entry) (w : Entry) → find_in_doubt id ws ≡ Some w → w.id ≡ id
found_id id [] w is = absurd cc
found_id id (v ∷ ws) w is = ⊎_elim
    (λ yes. let here : Some v ≡ Some w = ap (λ b. cond b (Some v) (find_in_doubt id ws)) (sym yes) ∙ is in let same : v ≡ w = cc in ap (λ (x : Entry). x.id) (sym same) ∙ same_id_true v.id id yes)
    (λ no. found_id id ws w (ap (λ b. cond b (Some v) (find_in_doubt id ws)) (sym no) ∙ is))
    (cases_Bool (same_id v.id id))

-- what is taken out is not found
pub find_without_same : (id : WriteId) (ws : List Entry) → find_in_doubt id (without id ws) ≡ None
find_without_same id [] = refl
find_without_same id (w ∷ ws) = ⊎_elim
    (λ yes. rw yes (find_without_same id ws))
    (λ no. rw no (rw no (find_without_same id ws)))
    (cases_Bool (same_id w.id id))

-- another is found as before
pub find_without_other : (id other : WriteId) (ws : List Entry) → (id ≡ other → ⊥) → find_in_doubt id (without other ws) ≡ find_in_doubt id ws
find_without_other id other [] ne = refl
find_without_other id other (w ∷ ws) ne = ⊎_elim
    (λ out. ⊎_elim
    (λ here. absurd (ne (sym (same_id_true w.id id here) ∙ same_id_true w.id other out)))
    (λ not_here. rw out (rw not_here (find_without_other id other ws ne)))
    (cases_Bool (same_id w.id id)))
    (λ stays. rw stays (ap (λ o. cond (same_id w.id id) (Some w) o) (find_without_other id other ws ne)))
    (cases_Bool (same_id w.id other))

abbrev pub HasPlacedId : WriteId → List PlacedId → Type 0
HasPlacedId id [] = ⊥
HasPlacedId id (p ∷ placed_ids) = (p.id ≡ id) ⊎ HasPlacedId id placed_ids

pub none_without : (id other : WriteId) (ws : List Entry) → find_in_doubt id ws ≡ None → find_in_doubt id (without other ws) ≡ None
none_without id other ws none = ⊎_elim
    (λ is. ap (λ (i : WriteId). find_in_doubt id (without i ws)) (sym is) ∙ find_without_same id ws)
    (λ ne. find_without_other id other ws ne ∙ none)
    (cases_id id other)

pub none_stays : (id : WriteId) (placed_ids : List PlacedId) (ws : List Entry) → find_in_doubt id ws ≡ None → find_in_doubt id (without_placed_ids placed_ids ws) ≡ None
none_stays id [] ws none = none
none_stays id (p ∷ placed_ids) ws none = none_stays id placed_ids (without p.id ws) (none_without id p.id ws none)

pub find_learned : (id : WriteId) (placed_ids : List PlacedId) (ws : List Entry) → HasPlacedId id placed_ids → find_in_doubt id (without_placed_ids placed_ids ws) ≡ None
find_learned id [] ws has = absurd has
find_learned id (p ∷ placed_ids) ws (inl here) = none_stays id placed_ids (without p.id ws) (ap (λ (i : WriteId). find_in_doubt id (without i ws)) here ∙ find_without_same id ws)
find_learned id (p ∷ placed_ids) ws (inr there) = find_learned id placed_ids (without p.id ws) there

pub find_not_learned : (id : WriteId) (placed_ids : List PlacedId) (ws : List Entry) → (HasPlacedId id placed_ids → ⊥) → find_in_doubt id (without_placed_ids placed_ids ws) ≡ find_in_doubt id ws
find_not_learned id [] ws not = refl
find_not_learned id (p ∷ placed_ids) ws not = find_not_learned id placed_ids (without p.id ws) (λ there. not (inr there)) ∙ find_without_other id p.id ws (λ is. not (inl (sym is)))

pub without_filter : (id : WriteId) (ws : List Entry) → without id ws ≡ filter (λ (w : Entry). not (same_id w.id id)) ws
without_filter id [] = refl
without_filter id (w ∷ ws) = ⊎_elim
    (λ yes. rw yes (without_filter id ws))
    (λ no. rw no (ap (λ (l : List Entry). w ∷ l) (without_filter id ws)))
    (cases_Bool (same_id w.id id))
