-- A record is a field.
use Rattle.std.proofs.Common.{◌≡◌, ℕ, zero, suc, ◌+◌, ◌<◌, Bool, true, false, ◌&&◌, leb, List, [], ◌∷◌, ◌++◌, length, map, Some, refl, arith}
use Rattle.std.specs.Int.{w64, to_be_bytes}
use Rattle.std.specs.List.{AllByRecursion}
use Rattle.std.proofs.lemmas.Bool.{leb-true, le-leb, and_parts, and_from}
use Rattle.std.proofs.lemmas.List.Elements.{All-from_recursion, recursion_from_All, All-map}
use Rattle.tuples.specs.declared.change.Change.{Change}
use Rattle.tuples.specs.declared.change.Condition.{Condition}
use Rattle.tuples.specs.declared.entry.Entry.{Entry}
use Rattle.tuples.specs.declared.entry.WriteId.{WriteId}
use Rattle.tuples.specs.Changes.{IsPart, changed, conditioned, tuple_of}
use Rattle.tuples.specs.Texts.{IsTuple}
use Rattle.tuples.proofs.Lists.{each_weaker}
use Rattle.records.specs.declared.mark.Mark.{Mark}
use Rattle.records.specs.declared.mark.Mark.TheVariants.{Begins, Row, Ends}
use Rattle.records.specs.declared.record.PlacedId.{PlacedId}
use Rattle.records.specs.declared.record.Record.{Record}
use Rattle.records.specs.declared.record.Record.TheVariants.{Prepare, Learned, Dropped, Epoch, Decision, Horizon, Checkpoint}
use Rattle.records.specs.Format.{change_bytes, id_bytes, entry_bytes, mark_bytes, record_bytes, IsMark, IsWriteId, WantFits, IsPlace, Fits64, ConditionsFit, ArePlaces, AreRisingTo, IsRecord, IsOfFirst}
use Rattle.records.specs.Reading.{byte_at, number_at, write_id_at, entry_at, placed_ids_at, are_rising_to, prepare_at, learned_at, dropped_at, epoch_at, decision_at, horizon_at, change_at, mark_of_kind_at, mark_at, checkpoint_at, record_of_kind_at, record_at}
use Rattle.records.proofs.Fields.{IsBytes, Takes, IsField, IsCase, one_case, two_case, four_case, tagged, tagged_field, byte_field}
use Rattle.records.proofs.Meanings.{distinct_of_test, test_of_distinct, rising_of_test, test_of_rising}
use Rattle.records.proofs.Texts.{kind_takes}
use Rattle.records.proofs.Writes.{InFirst, ArePlacedIds, IsCondition, IsChange, IsSpelledEntry, IsSpelledPlacedId, change_field, entry_field, placed_ids_bytes, placed_ids_field, place_field, write_id_field}

-- what has a spelling in version 1 if the flag says so, else in version 2
abbrev pub IsSpelled : Bool → Record → Type 0
IsSpelled first r = IsRecord r × InFirst first (IsOfFirst r)

-- ---- the conditions of a write, in either way of saying them

unmapped : {A B : Type 0} (P : B → Type 0) (f : A → B) (xs : List A) → AllByRecursion P (map f xs) → AllByRecursion (λ x. P (f x)) xs
unmapped P f [] all = tt
unmapped P f (x ∷ xs) all = (all.0, unmapped P f xs all.1)

in_first : (first : Bool) → InFirst first (Unit {0})
in_first true = tt
in_first false = tt

all_in_first : (first : Bool) (cs : List Condition) → AllByRecursion (IsCondition first) cs → InFirst first (ArePlaces cs)
all_in_first true cs all = each_weaker (IsCondition true) (λ c. IsPlace c.want) (λ c h. h.1.1) cs all
all_in_first false cs all = tt

part_of : (first : Bool) (w : Entry) → IsSpelledEntry first w → IsPart w.changes w.conditions
part_of first w h = record {
  few_changes = h.changes.0.0;
  few_conditions = h.conditions.0.0;
  distinct_changes = distinct_of_test _ h.changes.1;
  distinct_conditions = distinct_of_test _ h.conditions.1;
  changes_spelled = All-map IsTuple tuple_of w.changes (All-from_recursion (λ c. IsTuple (tuple_of c)) w.changes h.changes.0.1);
  conditions_spelled = All-map IsTuple (λ (c : Condition). c.tuple) w.conditions (All-from_recursion (λ (c : Condition). IsTuple c.tuple) w.conditions (each_weaker (IsCondition first) (λ c. IsTuple c.tuple) (λ c k. k.0) w.conditions h.conditions.0.1));
}

wants_of : (first : Bool) (w : Entry) → IsSpelledEntry first w → ConditionsFit w.conditions
wants_of first w h = each_weaker (IsCondition first) (λ c. WantFits c.want) (λ c k. k.1.0) w.conditions h.conditions.0.1

conditions_back : (first : Bool) (cs : List Condition) → AllByRecursion (λ (c : Condition). IsTuple c.tuple) cs → ConditionsFit cs → InFirst first (ArePlaces cs) → AllByRecursion (IsCondition first) cs
conditions_back first [] tuples wants places = tt
conditions_back true (c ∷ cs) tuples wants places = ((tuples.0, (wants.0, places.0)), conditions_back true cs tuples.1 wants.1 places.1)
conditions_back false (c ∷ cs) tuples wants places = ((tuples.0, (wants.0, tt)), conditions_back false cs tuples.1 wants.1 tt)

entry_back : (first : Bool) (w : Entry) → IsWriteId w.id → IsPart w.changes w.conditions → ConditionsFit w.conditions → InFirst first (ArePlaces w.conditions) → IsSpelledEntry first w
entry_back first w id part wants places = record {
  id = id;
  changes = ((part.few_changes, unmapped IsTuple tuple_of w.changes (recursion_from_All IsTuple (changed w.changes) part.changes_spelled)), test_of_distinct _ part.distinct_changes);
  conditions = ((part.few_conditions, conditions_back first w.conditions (unmapped IsTuple (λ (c : Condition). c.tuple) w.conditions (recursion_from_All IsTuple (conditioned w.conditions) part.conditions_spelled)) wants places), test_of_distinct _ part.distinct_conditions);
}

-- ---- the cases

abbrev FitsPrepare : Bool → Entry → Type 0
FitsPrepare first w = IsSpelledEntry first w × (leb 1 (length w.changes + length w.conditions) ≡ true)

prepare_case : (first : Bool) → IsCase (prepare_at first) (λ (w : Entry). Prepare w) (entry_bytes first) (FitsPrepare first)
unfolding prepare_at
prepare_case first = one_case (entry_at first) (entry_bytes first) (IsSpelledEntry first) (λ w. leb 1 (length w.changes + length w.conditions)) (λ w. Prepare w) (entry_field first)

prepare_fits : (first : Bool) (w : Entry) → FitsPrepare first w → IsSpelled first (Prepare w)
prepare_fits first w h = (record { id = h.0.id; part = part_of first w h.0; some = leb-true _ _ h.1; wants = wants_of first w h.0 }, all_in_first first w.conditions h.0.conditions.0.1)

prepare_back : (first : Bool) (w : Entry) → IsSpelled first (Prepare w) → FitsPrepare first w
prepare_back first w h = (entry_back first w h.0.id h.0.part h.0.wants h.1, le-leb _ _ h.0.some)

abbrev FitsLearned : ℕ × List PlacedId → Type 0
FitsLearned x = (Fits64 x.0 × ArePlacedIds x.1) × (are_rising_to x.0 x.1 ≡ true)

learned_case : IsCase learned_at (λ (x : ℕ × List PlacedId). Learned x.0 x.1) (λ x. to_be_bytes w64 x.0 ++ placed_ids_bytes x.1) FitsLearned
unfolding learned_at
learned_case = two_case (number_at w64) (to_be_bytes w64) Fits64 placed_ids_at placed_ids_bytes ArePlacedIds are_rising_to (λ to placed_ids. Learned to placed_ids) place_field placed_ids_field

learned_fits : (first : Bool) (x : ℕ × List PlacedId) → FitsLearned x → IsSpelled first (Learned x.0 x.1)
learned_fits first x h = (record { to_fits = h.0.0; few = h.0.1.0; ids = each_weaker IsSpelledPlacedId (λ p. IsWriteId p.id) (λ p k. k.0) x.1 h.0.1.1; places = rising_of_test _ _ h.1 }, in_first first)

placed_ids_back : (to : ℕ) (placed_ids : List PlacedId) → Fits64 to → AreRisingTo to placed_ids → AllByRecursion (λ (p : PlacedId). IsWriteId p.id) placed_ids → AllByRecursion IsSpelledPlacedId placed_ids
placed_ids_back to [] fits rising ids = tt
placed_ids_back to (p ∷ []) fits rising ids = ((ids.0, omega (arith, rising, fits)), tt)
placed_ids_back to (p ∷ q ∷ placed_ids) fits rising ids =
    let others = placed_ids_back to (q ∷ placed_ids) fits rising.1 ids.1 in
    let next : Fits64 q.place = others.0.1 in
    ((ids.0, omega (arith, rising.0, next)), others)

learned_back : (first : Bool) (to : ℕ) (placed_ids : List PlacedId) → IsSpelled first (Learned to placed_ids) → FitsLearned (to, placed_ids)
learned_back first to placed_ids h = ((h.0.to_fits, (h.0.few, placed_ids_back to placed_ids h.0.to_fits h.0.places h.0.ids)), test_of_rising _ _ h.0.places)

dropped_case : IsCase dropped_at (λ (i : WriteId). Dropped i) id_bytes (λ i. IsWriteId i × (true ≡ true))
unfolding dropped_at
dropped_case = one_case write_id_at id_bytes IsWriteId (λ i. true) (λ i. Dropped i) write_id_field

abbrev shards_fit : ℕ → Bool
shards_fit shards = leb 1 shards && leb shards 64

abbrev FitsEpoch : ℕ × ℕ × ℕ × ℕ → Type 0
FitsEpoch x = (Fits64 x.0 × Fits64 x.1 × (x.2 < 256) × (x.3 < 256)) × (shards_fit x.2 ≡ true)

epoch_case : IsCase epoch_at (λ (x : ℕ × ℕ × ℕ × ℕ). Epoch x.0 x.1 x.2 x.3) (λ x. to_be_bytes w64 x.0 ++ (to_be_bytes w64 x.1 ++ ((x.2 ∷ []) ++ (x.3 ∷ [])))) FitsEpoch
unfolding epoch_at
epoch_case = four_case (number_at w64) (to_be_bytes w64) Fits64 (number_at w64) (to_be_bytes w64) Fits64 byte_at (λ b. b ∷ []) (λ b. b < 256) byte_at (λ b. b ∷ []) (λ b. b < 256) (λ e s k n. shards_fit k) (λ e s k n. Epoch e s k n) place_field place_field byte_field byte_field

epoch_fits : (first : Bool) (x : ℕ × ℕ × ℕ × ℕ) → FitsEpoch x → IsSpelled first (Epoch x.0 x.1 x.2 x.3)
epoch_fits first x h =
    let p = and_parts (leb 1 x.2) (leb x.2 64) h.1 in
    (record { epoch_fits = h.0.0; store_fits = h.0.1; some = leb-true _ _ p.0; few = leb-true _ _ p.1; node_fits = h.0.3 }, in_first first)

epoch_back : (first : Bool) (epoch store shards node : ℕ) → IsSpelled first (Epoch epoch store shards node) → FitsEpoch (epoch, store, shards, node)
epoch_back first epoch store shards node h = ((h.0.epoch_fits, h.0.store_fits, omega (arith, h.0.few), h.0.node_fits), and_from _ _ (le-leb _ _ h.0.some) (le-leb _ _ h.0.few))

abbrev FitsDecision : Bool → ℕ × Entry → Type 0
FitsDecision first x = (Fits64 x.0 × IsSpelledEntry first x.1) × (leb 1 (length x.1.changes) ≡ true)

decision_case : (first : Bool) → IsCase (decision_at first) (λ (x : ℕ × Entry). Decision x.0 x.1) (λ x. to_be_bytes w64 x.0 ++ entry_bytes first x.1) (FitsDecision first)
unfolding decision_at
decision_case first = two_case (number_at w64) (to_be_bytes w64) Fits64 (entry_at first) (entry_bytes first) (IsSpelledEntry first) (λ p w. leb 1 (length w.changes)) (λ p w. Decision p w) place_field (entry_field first)

decision_fits : (first : Bool) (x : ℕ × Entry) → FitsDecision first x → IsSpelled first (Decision x.0 x.1)
decision_fits first x h = (record { place_fits = h.0.0; id = h.0.1.id; write = record { some = leb-true _ _ h.1; part = part_of first x.1 h.0.1 }; wants = wants_of first x.1 h.0.1 }, all_in_first first x.1.conditions h.0.1.conditions.0.1)

decision_back : (first : Bool) (place : ℕ) (w : Entry) → IsSpelled first (Decision place w) → FitsDecision first (place, w)
decision_back first place w h = ((h.0.place_fits, entry_back first w h.0.id h.0.write.part h.0.wants h.1), le-leb _ _ h.0.write.some)

horizon_case : IsCase horizon_at (λ (p : ℕ). Horizon p) (to_be_bytes w64) (λ p. Fits64 p × (true ≡ true))
unfolding horizon_at
horizon_case = one_case (number_at w64) (to_be_bytes w64) Fits64 (λ p. true) (λ p. Horizon p) place_field

-- ---- the marks of a checkpoint

begins_case : IsCase (mark_of_kind_at 0) (λ (g : ℕ). Begins g) (to_be_bytes w64) (λ g. Fits64 g × (true ≡ true))
unfolding mark_of_kind_at
begins_case = one_case (number_at w64) (to_be_bytes w64) Fits64 (λ g. true) (λ g. Begins g) place_field

abbrev FitsRow : ℕ × Change → Type 0
FitsRow x = (Fits64 x.0 × IsChange x.1) × (true ≡ true)

row_case : IsCase (mark_of_kind_at 1) (λ (x : ℕ × Change). Row x.0 x.1) (λ x. to_be_bytes w64 x.0 ++ change_bytes x.1) FitsRow
unfolding mark_of_kind_at
row_case = two_case (number_at w64) (to_be_bytes w64) Fits64 change_at change_bytes IsChange (λ p c. true) (λ p c. Row p c) place_field change_field

ends_case : IsCase (mark_of_kind_at 2) (λ (g : ℕ). Ends g) (to_be_bytes w64) (λ g. Fits64 g × (true ≡ true))
unfolding mark_of_kind_at
ends_case = one_case (number_at w64) (to_be_bytes w64) Fits64 (λ g. true) (λ g. Ends g) place_field

mark_takes : (k : ℕ) (bytes : List ℕ) (z : Mark × List ℕ) → IsBytes bytes → mark_of_kind_at k bytes ≡ Some z → Takes (k ∷ bytes) (mark_bytes z.0) z.1 × IsMark z.0
unfolding mark_of_kind_at
mark_takes zero bytes z fits e =
    kind_takes 0 (mark_of_kind_at 0) (λ (g : ℕ). Begins g) (to_be_bytes w64) (λ g. Fits64 g × (true ≡ true)) mark_bytes IsMark begins_case (λ g. refl) (λ g h. h.0) bytes z fits e
mark_takes (suc zero) bytes z fits e =
    kind_takes 1 (mark_of_kind_at 1) (λ (x : ℕ × Change). Row x.0 x.1) (λ x. to_be_bytes w64 x.0 ++ change_bytes x.1) FitsRow mark_bytes IsMark row_case (λ x. refl) (λ x h. record { place_fits = h.0.0; tuple = h.0.1 }) bytes z fits e
mark_takes (suc (suc zero)) bytes z fits e =
    kind_takes 2 (mark_of_kind_at 2) (λ (g : ℕ). Ends g) (to_be_bytes w64) (λ g. Fits64 g × (true ≡ true)) mark_bytes IsMark ends_case (λ g. refl) (λ g h. h.0) bytes z fits e
mark_takes (suc (suc (suc k))) bytes z fits e = absurd cc

mark_again : (m : Mark) (rest : List ℕ) → IsMark m → tagged mark_of_kind_at (mark_bytes m ++ rest) ≡ Some (m, rest)
mark_again (Begins g) rest h = begins_case.again g rest (h, refl)
mark_again (Row place change) rest h = row_case.again (place, change) rest ((h.place_fits, h.tuple), refl)
mark_again (Ends g) rest h = ends_case.again g rest (h, refl)

mark_field : IsField mark_at mark_bytes IsMark
unfolding mark_at
mark_field = tagged_field mark_of_kind_at mark_bytes IsMark mark_takes mark_again

checkpoint_case : IsCase checkpoint_at (λ (m : Mark). Checkpoint m) mark_bytes (λ m. IsMark m × (true ≡ true))
unfolding checkpoint_at
checkpoint_case = one_case mark_at mark_bytes IsMark (λ m. true) (λ m. Checkpoint m) mark_field

-- ---- the record

record_takes : (first : Bool) (k : ℕ) (bytes : List ℕ) (z : Record × List ℕ) → IsBytes bytes → record_of_kind_at first k bytes ≡ Some z → Takes (k ∷ bytes) (record_bytes first z.0) z.1 × IsSpelled first z.0
unfolding record_of_kind_at record_bytes
record_takes first zero bytes z fits e = absurd cc
record_takes first (suc zero) bytes z fits e =
    kind_takes 1 (prepare_at first) (λ (w : Entry). Prepare w) (entry_bytes first) (FitsPrepare first) (record_bytes first) (IsSpelled first) (prepare_case first) (λ w. refl) (prepare_fits first) bytes z fits e
record_takes first (suc (suc zero)) bytes z fits e =
    kind_takes 2 learned_at (λ (x : ℕ × List PlacedId). Learned x.0 x.1) (λ x. to_be_bytes w64 x.0 ++ placed_ids_bytes x.1) FitsLearned (record_bytes first) (IsSpelled first) learned_case (λ x. refl) (learned_fits first) bytes z fits e
record_takes first (suc (suc (suc zero))) bytes z fits e =
    kind_takes 3 dropped_at (λ (i : WriteId). Dropped i) id_bytes (λ i. IsWriteId i × (true ≡ true)) (record_bytes first) (IsSpelled first) dropped_case (λ i. refl) (λ i h. (h.0, in_first first)) bytes z fits e
record_takes first (suc (suc (suc (suc zero)))) bytes z fits e =
    kind_takes 4 epoch_at (λ (x : ℕ × ℕ × ℕ × ℕ). Epoch x.0 x.1 x.2 x.3) (λ x. to_be_bytes w64 x.0 ++ (to_be_bytes w64 x.1 ++ ((x.2 ∷ []) ++ (x.3 ∷ [])))) FitsEpoch (record_bytes first) (IsSpelled first) epoch_case (λ x. refl) (epoch_fits first) bytes z fits e
record_takes first (suc (suc (suc (suc (suc zero))))) bytes z fits e =
    kind_takes 5 (decision_at first) (λ (x : ℕ × Entry). Decision x.0 x.1) (λ x. to_be_bytes w64 x.0 ++ entry_bytes first x.1) (FitsDecision first) (record_bytes first) (IsSpelled first) (decision_case first) (λ x. refl) (decision_fits first) bytes z fits e
record_takes first (suc (suc (suc (suc (suc (suc zero)))))) bytes z fits e =
    kind_takes 6 horizon_at (λ (p : ℕ). Horizon p) (to_be_bytes w64) (λ p. Fits64 p × (true ≡ true)) (record_bytes first) (IsSpelled first) horizon_case (λ p. refl) (λ p h. (h.0, in_first first)) bytes z fits e
record_takes first (suc (suc (suc (suc (suc (suc (suc zero))))))) bytes z fits e =
    kind_takes 7 checkpoint_at (λ (m : Mark). Checkpoint m) mark_bytes (λ m. IsMark m × (true ≡ true)) (record_bytes first) (IsSpelled first) checkpoint_case (λ m. refl) (λ m h. (h.0, in_first first)) bytes z fits e
record_takes first (suc (suc (suc (suc (suc (suc (suc (suc k)))))))) bytes z fits e = absurd cc

record_again : (first : Bool) (r : Record) (rest : List ℕ) → IsSpelled first r → tagged (record_of_kind_at first) (record_bytes first r ++ rest) ≡ Some (r, rest)
unfolding record_of_kind_at record_bytes
record_again first (Prepare w) rest h = (prepare_case first).again w rest (prepare_back first w h)
record_again first (Learned to placed_ids) rest h = learned_case.again (to, placed_ids) rest (learned_back first to placed_ids h)
record_again first (Dropped i) rest h = dropped_case.again i rest (h.0, refl)
record_again first (Epoch e s k n) rest h = epoch_case.again (e, s, k, n) rest (epoch_back first e s k n h)
record_again first (Decision p w) rest h = (decision_case first).again (p, w) rest (decision_back first p w h)
record_again first (Horizon p) rest h = horizon_case.again p rest (h.0, refl)
record_again first (Checkpoint m) rest h = checkpoint_case.again m rest (h.0, refl)

pub record_field : (first : Bool) → IsField (record_at first) (record_bytes first) (IsSpelled first)
unfolding record_at
record_field first = tagged_field (record_of_kind_at first) (record_bytes first) (IsSpelled first) (record_takes first) (record_again first)
