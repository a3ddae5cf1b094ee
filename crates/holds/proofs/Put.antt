-- A write that is put in its place among those in doubt.
use Rattle.std.proofs.Common.{◌≡◌, ◌≢◌, ◌⊎◌, inl, inr, ⊎_elim, ℕ, zero, suc, Bool, true, false, List, [], ◌∷◌, Option, Some, None, refl, sym, ◌∙◌, ap, cond, slice_get}
use Rattle.std.specs.Ordering.{is_eq, match_ordering}
use Rattle.std.specs.declared.cmp.Ordering.{Ordering}
use Rattle.std.specs.declared.cmp.Ordering.TheVariants.{Less, Equal, Greater}
use Rattle.tuples.specs.declared.entry.Entry.{Entry}
use Rattle.tuples.specs.declared.entry.WriteId.{WriteId}
use Rattle.tuples.specs.Log.{same_id}
use Rattle.records.specs.Replays.{find_in_doubt, id_cmp, put}
use Rattle.holds.specs.Holds.{AreAscendingIds, ids}
use Rattle.holds.proofs.Doubts.{same_id_other, same_id_refl, same_id_true}
use Rattle.holds.proofs.Ids.{id_ties}

-- ids of which one is greater are two
greater_is_other : (w v : Entry) → id_cmp w.id v.id ≡ Greater → v.id ≢ w.id
greater_is_other w v greater same =
    let yes : same_id w.id v.id ≡ true = ap (same_id w.id) same ∙ same_id_refl w.id in
    let no : same_id w.id v.id ≡ false = id_ties w.id v.id ∙ ap is_eq greater in
    cc

-- before the first of them, in its place, or after it
pub put_cases : (P : List Entry → Type 0) (w v : Entry) (ws : List Entry)
    → (id_cmp w.id v.id ≡ Less → P (w ∷ v ∷ ws)) → (w.id ≡ v.id → P (w ∷ ws)) → (id_cmp w.id v.id ≡ Greater → v.id ≢ w.id → P (v ∷ put w ws)) → P (put w (v ∷ ws))
put_cases P w v ws before instead behind = by_order (id_cmp w.id v.id) refl
  where
    by_order : (o : Ordering) → id_cmp w.id v.id ≡ o → P (match_ordering o (w ∷ v ∷ ws) (w ∷ ws) (v ∷ put w ws))
    by_order Less is = before is
    by_order Equal is = instead (same_id_true w.id v.id (id_ties w.id v.id ∙ ap is_eq is))
    by_order Greater is = behind is (greater_is_other w v is)

-- ---- what is found

-- for another id it is what was found before
pub find_put : (id : WriteId) (ws : List Entry) (w : Entry) → w.id ≢ id → find_in_doubt id (put w ws) ≡ find_in_doubt id ws
find_put id [] w ne = ap (λ (b : Bool). cond b (Some w) None) (same_id_other w.id id ne)
find_put id (v ∷ ws) w ne = put_cases (λ l. find_in_doubt id l ≡ find_in_doubt id (v ∷ ws)) w v ws
    (λ less. ap (λ (b : Bool). cond b (Some w) (find_in_doubt id (v ∷ ws))) (same_id_other w.id id ne))
    (λ same.
    ap (λ (b : Bool). cond b (Some w) (find_in_doubt id ws)) (same_id_other w.id id ne)
    ∙ sym (ap (λ (b : Bool). cond b (Some v) (find_in_doubt id ws)) (same_id_other v.id id (λ is. ne (same ∙ is)))))
    (λ greater other. ap (λ (o : Option Entry). cond (same_id v.id id) (Some v) o) (find_put id ws w ne))

-- for its own id it is found
pub find_put_same : (ws : List Entry) (w : Entry) → find_in_doubt w.id (put w ws) ≡ Some w
find_put_same [] w = ap (λ (b : Bool). cond b (Some w) None) (same_id_refl w.id)
find_put_same (v ∷ ws) w = put_cases (λ l. find_in_doubt w.id l ≡ Some w) w v ws
    (λ less. ap (λ (b : Bool). cond b (Some w) (find_in_doubt w.id (v ∷ ws))) (same_id_refl w.id))
    (λ same. ap (λ (b : Bool). cond b (Some w) (find_in_doubt w.id ws)) (same_id_refl w.id))
    (λ greater other. ap (λ (b : Bool). cond b (Some v) (find_in_doubt w.id (put w ws))) (same_id_other v.id w.id other) ∙ find_put_same ws w)

first_or : (x : Entry) (xs : List Entry) (j : ℕ) (y : Entry) → slice_get (x ∷ xs) j ≡ Some y → (y ≡ x) ⊎ ((k : ℕ) × (slice_get xs k ≡ Some y))
first_or x xs zero y at = inl cc
first_or x xs (suc j) y at = inr (j, at)

-- each of them is the new one, or was there
pub put_or_there : (w : Entry) (ws : List Entry) (j : ℕ) (y : Entry) → slice_get (put w ws) j ≡ Some y → (y ≡ w) ⊎ ((k : ℕ) × (slice_get ws k ≡ Some y))
put_or_there w [] = first_or w []
put_or_there w (v ∷ ws) = put_cases (λ l. (j : ℕ) (y : Entry) → slice_get l j ≡ Some y → (y ≡ w) ⊎ ((k : ℕ) × (slice_get (v ∷ ws) k ≡ Some y))) w v ws
    (λ less. first_or w (v ∷ ws))
    (λ same j y at. ⊎_elim (λ new. inl new) (λ old. inr (suc old.0, old.1)) (first_or w ws j y at))
    (λ greater other j y at. ⊎_elim
    (λ first. inr (zero, ap (λ (x : Entry). Some x) (sym first)))
    (λ later. ⊎_elim (λ new. inl new) (λ old. inr (suc old.0, old.1)) (put_or_there w ws later.0 y later.1))
    (first_or v (put w ws) j y at))

-- ---- the order of ids

abbrev pub AreAscending : List Entry → Type 0
AreAscending ws = AreAscendingIds (ids ws)
