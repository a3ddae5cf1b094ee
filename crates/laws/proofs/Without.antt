-- What is left of the open writes once one is decided or aborted.
use Rattle.std.proofs.Common.{◌≡◌, ◌≢◌, ⊎_elim, ℕ, zero, suc, ◌≤◌, false, List, [], ◌∷◌, length, Some, Contains, refl, sym, ◌∙◌, ap, arith, slice_get}
use Rattle.std.proofs.lemmas.Bool.{cases_Bool, both_ways}
use Rattle.tuples.proofs.Lists.{contained_at, contained_from}
use Rattle.records.specs.Replays.{without}
use Rattle.replay.proofs.Doubts.{same_id_refl, same_id_true}
use Rattle.laws.proofs.Locks.{of_without}
use Rattle.laws.proofs.Words.{AreNew, Entry, WriteId, same_id}

-- a write that stays among those without one
pub stays_without : (id : WriteId) (ws : List Entry) (v : Entry) → v.id ≢ id → Contains ws v → Contains (without id ws) v
stays_without id ws v ne has = let at = contained_at ws v has in let r = found ws at.0 at.1 in contained_from (without id ws) r.0 v r.1
  where
    found : (xs : List Entry) (i : ℕ) → slice_get xs i ≡ Some v → (j : ℕ) × (slice_get (without id xs) j ≡ Some v)
    found [] i is = absurd cc
    found (x ∷ xs) zero is = ⊎_elim
        (λ out. let same : x ≡ v = cc in absurd (ne (ap (λ (e : Entry). e.id) (sym same) ∙ same_id_true x.id id out)))
        (λ stays. (0, rw stays is))
        (cases_Bool (same_id x.id id))
    found (x ∷ xs) (suc i) is = let r = found xs i is in ⊎_elim (λ out. (r.0, rw out r.1)) (λ stays. (suc r.0, rw stays r.1)) (cases_Bool (same_id x.id id))

-- what is left without an id has another
pub other_without : (id : WriteId) (ws : List Entry) (v : Entry) → Contains (without id ws) v → v.id ≢ id
other_without id ws v has same = let at = contained_at (without id ws) v has in nowhere ws at.0 at.1
  where
    nowhere : (xs : List Entry) (j : ℕ) → slice_get (without id xs) j ≡ Some v → ⊥
    nowhere [] j is = absurd cc
    nowhere (x ∷ xs) j is = ⊎_elim
        (λ out. nowhere xs j (rw out at is))
        (λ stays. at_one j stays (rw stays at is) (λ k at_k. nowhere xs k at_k))
        (cases_Bool (same_id x.id id))
      where
        at_one : (k : ℕ) → same_id x.id id ≡ false → slice_get (x ∷ without id xs) k ≡ Some v → ((m : ℕ) → slice_get (without id xs) m ≡ Some v → ⊥) → ⊥
        at_one zero stays at rest = let is_v : x ≡ v = cc in both_ways _ stays (ap (λ (i : WriteId). same_id i id) (ap (λ (e : Entry). e.id) is_v ∙ same) ∙ same_id_refl id)
        at_one (suc k) stays at rest = rest k at

pub new_without : (id : WriteId) (ws : List Entry) → AreNew ws → AreNew (without id ws)
new_without id [] new = new
new_without id (x ∷ ws) new = ⊎_elim
    (λ out. rw out (new_without id ws (tail_new new)))
    (λ stays. rw stays (longer (new_without id ws (tail_new new))))
    (cases_Bool (same_id x.id id))
  where
    tail_new : AreNew (x ∷ ws) → AreNew ws
    tail_new all i j v w is_v is_w same = let e = all (suc i) (suc j) v w is_v is_w same in omega (arith, e)

    longer : AreNew (without id ws) → AreNew (x ∷ without id ws)
    longer rest zero zero v w is_v is_w same = refl
    longer rest zero (suc j) v w is_v is_w same = let old = of_without id ws j w is_w in let e = new 0 (suc old.0) v w is_v old.1 same in absurd (omega (arith, e))
    longer rest (suc i) zero v w is_v is_w same = let old = of_without id ws i v is_v in let e = new (suc old.0) 0 v w old.1 is_w same in absurd (omega (arith, e))
    longer rest (suc i) (suc j) v w is_v is_w same = ap suc (rest i j v w is_v is_w same)

few_without : (id : WriteId) (ws : List Entry) → length (without id ws) ≤ length ws
few_without id [] = omega arith
few_without id (x ∷ ws) = let rest = few_without id ws in ⊎_elim (λ out. rw out (omega (arith, rest))) (λ stays. rw stays (omega (arith, rest))) (cases_Bool (same_id x.id id))

pub few_still : (id : WriteId) (ws : List Entry) (most : ℕ) → length ws ≤ most → length (without id ws) ≤ most
few_still id ws most le = let fewer = few_without id ws in omega (arith, fewer, le)
