-- Small writes and watches: over a list of one write, what is so, and what is not.
use Rattle.std.proofs.Common.{◌≡◌, inr, ⊎_elim, ℕ, zero, suc, List, [], ◌∷◌, Some, slice_get, refl, ◌∙◌, ap, arith}
use Rattle.std.proofs.lemmas.Option.{same_Some}
use Rattle.tuples.specs.declared.change.Change.TheVariants.{Delete, Touch}
use Rattle.flow_ties.proofs.Words.{AreEventsTo, Cancelled, Entry, IsWrittenAt, Placed, RefusesAsTold, view_ended, WriteValue}
use Rattle.tuples.specs.Watching.{events}
use Rattle.tuples.proofs.Examples.{numbered, viewed}

abbrev one_write : Entry
one_write = numbered 1 (Touch (viewed 97) ∷ []) []

abbrev one : List Entry
one = one_write ∷ []

abbrev asked : WriteValue
asked = record { changes = Touch (viewed 97) ∷ []; conditions = [] }

abbrev another : WriteValue
another = record { changes = Delete (viewed 97) ∷ []; conditions = [] }

-- it stands at its place, which is above none
stands : IsWrittenAt asked 0 one 1
stands = record {
  write = one_write;
  is_asked = record { changes = refl; conditions = refl };
  stands = record { index = 0; place_is = refl; there = refl; once = once };
  higher = omega arith;
}
  where
    once : (i : ℕ) (u : Entry) → slice_get one i ≡ Some u → u.id ≡ one_write.id → i ≡ 0
    once zero u is same = refl
    once (suc i) u is same = absurd (cc is)

-- a place without a write is none of its places
no_write : IsWrittenAt asked 0 [] 1 → ⊥
no_write it = absurd (cc it.stands.there)

-- nor is the place of another write
of_another : IsWrittenAt another 0 one 1 → ⊥
of_another it = at it.stands.index (let is = it.stands.place_is in omega (arith, is)) it.stands.there it.is_asked.changes
  where
    at : (i : ℕ) → i ≡ 0 → slice_get one i ≡ Some it.write → it.write.changes ≡ another.changes → ⊥
    at zero is there changes = absurd (let bad : one_write.changes ≡ another.changes = ap (λ (e : Entry). e.changes) (same_Some one_write it.write there) ∙ changes in cc)
    at (suc i) is there changes = absurd (cc there)

-- nor one that had been seen before
seen_before : IsWrittenAt asked 1 one 1 → ⊥
seen_before it = let higher = it.higher in omega (arith, higher)

-- nor is it a write whose id stands there twice
twice : IsWrittenAt asked 0 (one_write ∷ one_write ∷ []) 1 → ⊥
twice it = at it.stands.index (let is = it.stands.place_is in omega (arith, is)) it.stands.there (it.stands.once 1 one_write refl)
  where
    at : (i : ℕ) → i ≡ 0 → slice_get (one_write ∷ one_write ∷ []) i ≡ Some it.write → (one_write.id ≡ it.write.id → 1 ≡ i) → ⊥
    at zero is there once = absurd (let bad : 1 ≡ 0 = once (ap (λ (e : Entry). e.id) (same_Some one_write it.write there)) in cc)
    at (suc i) is there once = absurd (cc is)

-- nor has one been cancelled, since nobody may
cancelled : RefusesAsTold 1 [] (view_ended Cancelled) → ⊥
cancelled it = it.ends_uncancelled refl

module _ (names : List (List ℕ)) where
  -- A watch after the beginning lists the change up to the place, or no change of no place: that only if no more had been seen.
  lists_all : AreEventsTo 0 1 names 1 one 1 (events one 0 1 names)
  lists_all = record { there = omega arith; behind = omega arith; within = omega arith; far = inr (omega arith); all = refl }

  stops_early : AreEventsTo 0 1 names 1 one 0 (events one 0 0 names) → ⊥
  stops_early it = ⊎_elim (λ all. omega (arith, all)) (λ seen. omega (arith, seen)) it.far

  -- a place that the list does not have is no answer
  no_such_place : (changes : List Placed) → AreEventsTo 0 2 names 1 one 2 changes → ⊥
  no_such_place changes it = let there = it.there in omega (arith, there)
