-- The writes in doubt at a shard are apart.
use Rattle.std.proofs.Common.{◌≡◌, ◌≢◌, ◌⊎◌, inl, inr, ⊎_elim, ℕ, ◌==◌, zero, suc, true, false, List, [], ◌∷◌, Some, None, All, sym, ◌∙◌, ap, cond, slice_get}
use Rattle.std.proofs.lemmas.Bool.{cases_Bool, both_ways, eq-eqb, eqb-true}
use Rattle.std.proofs.lemmas.List.Elements.{All-contains}
use Rattle.laws.proofs.Words.{Entry, Tuple, WriteId, find_in_doubt, has_tuple, is_held, named, same_id}
use Rattle.tuples.proofs.Named.{has_tuple_decides}
use Rattle.records.specs.Replays.{without}
use Rattle.replay.proofs.Doubts.{same_id_refl}
use Rattle.laws.specs.LockLaws.{DoubtsAreApart}
use Rattle.replay.proofs.Images.{image_apart}

pub same_or_not : (i j : ℕ) → (i ≡ j) ⊎ (i ≢ j)
same_or_not i j = ⊎_elim (λ yes. inl (eqb-true i j yes)) (λ other. inr (λ is. both_ways _ other (eq-eqb i j is))) (cases_Bool (i == j))

-- what is left without one write was there
pub of_without : (id : WriteId) (ws : List Entry) (j : ℕ) (v : Entry) → slice_get (without id ws) j ≡ Some v → (i : ℕ) × (slice_get ws i ≡ Some v)
of_without id [] j v is = (j, is)
of_without id (w ∷ ws) j v is = ⊎_elim
    (λ out. let r = of_without id ws j v (rw out at is) in (suc r.0, r.1))
    (λ stays. here j (rw stays at is) (λ k at. of_without id ws k v at))
    (cases_Bool (same_id w.id id))
  where
    here : (k : ℕ) → slice_get (w ∷ without id ws) k ≡ Some v → ((m : ℕ) → slice_get (without id ws) m ≡ Some v → (i : ℕ) × (slice_get ws i ≡ Some v)) → (i : ℕ) × (slice_get (w ∷ ws) i ≡ Some v)
    here zero at rest = (zero, at)
    here (suc k) at rest = let r = rest k at in (suc r.0, r.1)

pub all_has : (P : Tuple → Type 0) (ts : List Tuple) (t : Tuple) → All P ts → has_tuple t ts ≡ true → P t
all_has P ts t all has = All-contains P ts t all ((has_tuple_decides t ts).0 has)

pub not_held : (t : Tuple) (ws : List Entry) (j : ℕ) (v : Entry) → is_held t ws ≡ false → slice_get ws j ≡ Some v → has_tuple t (named v) ≡ false
not_held t [] j v free is = absurd cc
not_held t (w ∷ ws) j v free is = ⊎_elim
    (λ yes. absurd (both_ways _ free (ap (λ b. cond b true (is_held t ws)) yes)))
    (λ other. here j other is (λ k at. not_held t ws k v (ap (λ b. cond b true (is_held t ws)) (sym other) ∙ free) at))
    (cases_Bool (has_tuple t (named w)))
  where
    here : (k : ℕ) → has_tuple t (named w) ≡ false → slice_get (w ∷ ws) k ≡ Some v → ((m : ℕ) → slice_get ws m ≡ Some v → has_tuple t (named v) ≡ false) → has_tuple t (named v) ≡ false
    here zero other at rest = let same : w ≡ v = cc in ap (λ (u : Entry). has_tuple t (named u)) (sym same) ∙ other
    here (suc k) other at rest = rest k at

pub not_found : (id : WriteId) (ws : List Entry) (j : ℕ) (v : Entry) → find_in_doubt id ws ≡ None → slice_get ws j ≡ Some v → v.id ≡ id → ⊥
not_found id [] j v none is same = absurd cc
not_found id (w ∷ ws) j v none is same = ⊎_elim
    (λ yes. let some : Some w ≡ None = ap (λ b. cond b (Some w) (find_in_doubt id ws)) (sym yes) ∙ none in absurd cc)
    (λ other. here j other is (λ k at. not_found id ws k v (ap (λ b. cond b (Some w) (find_in_doubt id ws)) (sym other) ∙ none) at same))
    (cases_Bool (same_id w.id id))
  where
    here : (k : ℕ) → same_id w.id id ≡ false → slice_get (w ∷ ws) k ≡ Some v → ((m : ℕ) → slice_get ws m ≡ Some v → ⊥) → ⊥
    here zero other at rest = let is_v : w ≡ v = cc in both_ways _ other (ap (λ (i : WriteId). same_id i id) (ap (λ (u : Entry). u.id) is_v ∙ same) ∙ same_id_refl id)
    here (suc k) other at rest = rest k at

pub doubts_apart : DoubtsAreApart
doubts_apart = image_apart
