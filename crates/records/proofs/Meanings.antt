-- What the tests of a reader mean.
use Rattle.std.proofs.Common.{◌≡◌, ℕ, Bool, true, not, ◌&&◌, leb, ltb, List, [], ◌∷◌, length, ◌↔◌, IsTrue, refl}
use Rattle.std.specs.List.{list_all}
use Rattle.std.proofs.lemmas.Bool.{leb-true, le-leb, ltb-true, lt-ltb, and_parts, and_from, not-true, not_from_false}
use Rattle.tuples.specs.declared.tuple.Tuple.{Tuple}
use Rattle.tuples.specs.Changes.{AreDistinct, has_tuple}
use Rattle.tuples.specs.Names.{IsId, IsName, is_id_byte, is_name_byte}
use Rattle.tuples.proofs.Options.{same_tests}
use Rattle.records.specs.declared.record.PlacedId.{PlacedId}
use Rattle.records.specs.Format.{AreRisingTo}
use Rattle.records.specs.Reading.{are_distinct, are_rising_to, is_id, is_name}

pub name_of_test : (t : List ℕ) → is_name t ≡ true → IsName t
name_of_test t h =
    let p = and_parts (leb 1 (length t)) (leb (length t) 64 && list_all is_name_byte t) h in
    let q = and_parts (leb (length t) 64) (list_all is_name_byte t) p.1 in
    record { some = leb-true _ _ p.0; few = leb-true _ _ q.0; each = q.1 }

pub test_of_name : (t : List ℕ) → IsName t → is_name t ≡ true
test_of_name t n = and_from _ _ (le-leb _ _ n.some) (and_from _ _ (le-leb _ _ n.few) n.each)

pub id_of_test : (t : List ℕ) → is_id t ≡ true → IsId t
id_of_test t h =
    let p = and_parts (leb 1 (length t)) (leb (length t) 128 && list_all is_id_byte t) h in
    let q = and_parts (leb (length t) 128) (list_all is_id_byte t) p.1 in
    record { some = leb-true _ _ p.0; few = leb-true _ _ q.0; each = q.1 }

pub test_of_id : (t : List ℕ) → IsId t → is_id t ≡ true
test_of_id t n = and_from _ _ (le-leb _ _ n.some) (and_from _ _ (le-leb _ _ n.few) n.each)

pub distinct_of_test : (ts : List Tuple) → are_distinct ts ≡ true → AreDistinct ts
distinct_of_test [] h = tt
distinct_of_test (t ∷ ts) h =
    let p = and_parts (not (has_tuple t ts)) (are_distinct ts) h in
    (not-true _ p.0, distinct_of_test ts p.1)

pub test_of_distinct : (ts : List Tuple) → AreDistinct ts → are_distinct ts ≡ true
test_of_distinct [] h = refl
test_of_distinct (t ∷ ts) h = and_from _ _ (not_from_false _ h.0) (test_of_distinct ts h.1)

-- the test says what the definition does
pub distinct_is : (ts : List Tuple) (b : Bool) → (IsTrue b ↔ AreDistinct ts) → b ≡ are_distinct ts
distinct_is ts b h = same_tests b (are_distinct ts) (λ e. test_of_distinct ts (h.0 e)) (λ e. h.1 (distinct_of_test ts e))

pub rising_of_test : (to : ℕ) (placed_ids : List PlacedId) → are_rising_to to placed_ids ≡ true → AreRisingTo to placed_ids
rising_of_test to [] h = tt
rising_of_test to (p ∷ []) h = leb-true _ _ h
rising_of_test to (p ∷ q ∷ placed_ids) h =
    let a = and_parts (ltb p.place q.place) (are_rising_to to (q ∷ placed_ids)) h in
    (ltb-true _ _ a.0, rising_of_test to (q ∷ placed_ids) a.1)

pub test_of_rising : (to : ℕ) (placed_ids : List PlacedId) → AreRisingTo to placed_ids → are_rising_to to placed_ids ≡ true
test_of_rising to [] h = refl
test_of_rising to (p ∷ []) h = le-leb _ _ h
test_of_rising to (p ∷ q ∷ placed_ids) h = and_from _ _ (lt-ltb _ _ h.0) (test_of_rising to (q ∷ placed_ids) h.1)
