-- Changes, conditions and writes are fields.
use Rattle.std.proofs.Common.{◌≡◌, ℕ, zero, suc, ◌^◌, ◌<◌, ◌≤◌, Bool, true, false, List, [], ◌∷◌, ◌++◌, length, Some, refl, subst, arith, leb}
use Rattle.std.specs.Int.{w16, w64, to_be_bytes}
use Rattle.std.specs.List.{flat_map, AllByRecursion}
use Rattle.std.proofs.lemmas.Bool.{leb-true, le-leb}
use Rattle.tuples.specs.declared.tuple.Tuple.{Tuple}
use Rattle.tuples.specs.declared.change.Change.{Change}
use Rattle.tuples.specs.declared.change.Change.TheVariants.{Touch, Delete}
use Rattle.tuples.specs.declared.change.Condition.{Condition}
use Rattle.tuples.specs.declared.change.Want.{Want}
use Rattle.tuples.specs.declared.change.Want.TheVariants.{NotAfter, Exists, Absent}
use Rattle.tuples.specs.declared.entry.Entry.{Entry}
use Rattle.tuples.specs.declared.entry.WriteId.{WriteId}
use Rattle.tuples.specs.Changes.{changed, conditioned, tuple_of}
use Rattle.tuples.specs.Texts.{IsTuple}
use Rattle.records.specs.declared.record.PlacedId.{PlacedId}
use Rattle.records.specs.Format.{id_bytes, tuple_bytes, change_bytes, want_bytes, condition_bytes, entry_bytes, placed_id_bytes, IsWriteId, WantFits, IsPlace, Fits64}
use Rattle.records.specs.Reading.{byte_at, number_at, positive_at, tuple_at, change_of_kind_at, change_at, not_after_at, want_of_kind_at, want_at, condition_at, few_at, are_distinct, changes_at, conditions_at, write_id_at, entry_at, placed_id_at, placed_ids_at}
use Rattle.records.proofs.Fields.{IsBytes, Takes, IsField, IsCase, field_of, some_is, one_case, two_case, three_case, tagged, tagged_field, byte_field, number_field, wide16, wide64}
use Rattle.records.proofs.Texts.{kind_takes, tuple_field}
use Rattle.records.proofs.Lists.{few_field}

-- what holds in version 1, if the flag says so
abbrev pub InFirst : Bool → Type 0 → Type 0
InFirst true P = P
InFirst false P = Unit {0}

pub place_field : IsField (number_at w64) (to_be_bytes w64) Fits64
place_field = number_field w64 (2 ^ 64) wide64

-- ---- ids

pub positive_field : IsField positive_at (to_be_bytes w64) (λ n. (1 ≤ n) × Fits64 n)
unfolding positive_at
positive_field = field_of positive_at (λ (n : ℕ). n) (to_be_bytes w64) (λ n. Fits64 n × (leb 1 n ≡ true)) (to_be_bytes w64) (λ n. (1 ≤ n) × Fits64 n)
    (one_case (number_at w64) (to_be_bytes w64) Fits64 (leb 1) (λ n. n) place_field)
    (λ n. refl)
    (λ n fit. (leb-true _ _ fit.1, fit.0))
    (λ n fit. (n, refl, (fit.1, le-leb _ _ fit.0)))

abbrev write_id : ℕ → ℕ → WriteId
write_id e n = record { epoch = e; number = n }

pub write_id_field : IsField write_id_at id_bytes IsWriteId
unfolding write_id_at
write_id_field = field_of write_id_at (λ (x : ℕ × ℕ). write_id x.0 x.1) (λ x. to_be_bytes w64 x.0 ++ to_be_bytes w64 x.1) (λ x. (((1 ≤ x.0) × Fits64 x.0) × ((1 ≤ x.1) × Fits64 x.1)) × (true ≡ true)) id_bytes IsWriteId
    (two_case positive_at (to_be_bytes w64) (λ n. (1 ≤ n) × Fits64 n) positive_at (to_be_bytes w64) (λ n. (1 ≤ n) × Fits64 n) (λ e n. true) write_id positive_field positive_field)
    (λ x. refl)
    (λ x fit. record { epoch = fit.0.0.0; epoch_fits = fit.0.0.1; number = fit.0.1.0; number_fits = fit.0.1.1 })
    (λ i fit. ((i.epoch, i.number), refl, (((fit.epoch, fit.epoch_fits), (fit.number, fit.number_fits)), refl)))

abbrev placed_id : WriteId → ℕ → PlacedId
placed_id i p = record { id = i; place = p }

abbrev pub IsSpelledPlacedId : PlacedId → Type 0
IsSpelledPlacedId p = IsWriteId p.id × Fits64 p.place

pub placed_id_field : IsField placed_id_at placed_id_bytes IsSpelledPlacedId
unfolding placed_id_at
placed_id_field = field_of placed_id_at (λ (x : WriteId × ℕ). placed_id x.0 x.1) (λ x. id_bytes x.0 ++ to_be_bytes w64 x.1) (λ x. (IsWriteId x.0 × Fits64 x.1) × (true ≡ true)) placed_id_bytes IsSpelledPlacedId
    (two_case write_id_at id_bytes IsWriteId (number_at w64) (to_be_bytes w64) Fits64 (λ i p. true) placed_id write_id_field place_field)
    (λ x. refl)
    (λ x fit. fit.0)
    (λ p fit. ((p.id, p.place), refl, (fit, refl)))

abbrev pub ArePlacedIds : List PlacedId → Type 0
ArePlacedIds placed_ids = (length placed_ids ≤ 256) × AllByRecursion IsSpelledPlacedId placed_ids

abbrev pub placed_ids_bytes : List PlacedId → List ℕ
placed_ids_bytes placed_ids = to_be_bytes w16 (length placed_ids) ++ flat_map placed_id_bytes placed_ids

pub placed_ids_field : IsField placed_ids_at placed_ids_bytes ArePlacedIds
unfolding placed_ids_at
placed_ids_field = few_field (number_at w16) (to_be_bytes w16) (λ n. n < 2 ^ 16) placed_id_at placed_id_bytes IsSpelledPlacedId 256 (number_field w16 (2 ^ 16) wide16) placed_id_field (λ n le. omega arith)

-- ---- changes

abbrev pub IsChange : Change → Type 0
IsChange c = IsTuple (tuple_of c)

touch_case : IsCase (change_of_kind_at 1) (λ (t : Tuple). Touch t) tuple_bytes (λ t. IsTuple t × (true ≡ true))
unfolding change_of_kind_at
touch_case = one_case tuple_at tuple_bytes IsTuple (λ t. true) (λ t. Touch t) tuple_field

delete_case : IsCase (change_of_kind_at 2) (λ (t : Tuple). Delete t) tuple_bytes (λ t. IsTuple t × (true ≡ true))
unfolding change_of_kind_at
delete_case = one_case tuple_at tuple_bytes IsTuple (λ t. true) (λ t. Delete t) tuple_field

change_takes : (k : ℕ) (bytes : List ℕ) (z : Change × List ℕ) → IsBytes bytes → change_of_kind_at k bytes ≡ Some z → Takes (k ∷ bytes) (change_bytes z.0) z.1 × IsChange z.0
unfolding change_of_kind_at
change_takes zero bytes z fits e = absurd cc
change_takes (suc zero) bytes z fits e =
    kind_takes 1 (change_of_kind_at 1) (λ (t : Tuple). Touch t) tuple_bytes (λ t. IsTuple t × (true ≡ true)) change_bytes IsChange touch_case (λ t. refl) (λ t fit. fit.0) bytes z fits e
change_takes (suc (suc zero)) bytes z fits e =
    kind_takes 2 (change_of_kind_at 2) (λ (t : Tuple). Delete t) tuple_bytes (λ t. IsTuple t × (true ≡ true)) change_bytes IsChange delete_case (λ t. refl) (λ t fit. fit.0) bytes z fits e
change_takes (suc (suc (suc k))) bytes z fits e = absurd cc

change_again : (c : Change) (rest : List ℕ) → IsChange c → tagged change_of_kind_at (change_bytes c ++ rest) ≡ Some (c, rest)
change_again (Touch t) rest fit = touch_case.again t rest (fit, refl)
change_again (Delete t) rest fit = delete_case.again t rest (fit, refl)

pub change_field : IsField change_at change_bytes IsChange
unfolding change_at
change_field = tagged_field change_of_kind_at change_bytes IsChange change_takes change_again

-- ---- conditions

abbrev IsSpelledWant : Bool → Want → Type 0
IsSpelledWant first w = WantFits w × InFirst first (IsPlace w)

not_after_case : IsCase not_after_at (λ (n : ℕ). NotAfter n) (to_be_bytes w64) (λ n. Fits64 n × (true ≡ true))
unfolding not_after_at
not_after_case = one_case (number_at w64) (to_be_bytes w64) Fits64 (λ n. true) (λ n. NotAfter n) place_field

want_of_first : (w : Want) → IsSpelledWant true w → (n : ℕ) × (NotAfter n ≡ w) × (Fits64 n × (true ≡ true))
want_of_first (NotAfter n) fit = (n, refl, (fit.0, refl))
want_of_first Exists fit = absurd fit.1
want_of_first Absent fit = absurd fit.1

first_want_field : IsField (want_at true) (want_bytes true) (IsSpelledWant true)
unfolding want_at
first_want_field = field_of (want_at true) (λ (n : ℕ). NotAfter n) (to_be_bytes w64) (λ n. Fits64 n × (true ≡ true)) (want_bytes true) (IsSpelledWant true) not_after_case (λ n. refl) (λ n fit. (fit.0, tt)) want_of_first

want_takes : (k : ℕ) (bytes : List ℕ) (z : Want × List ℕ) → IsBytes bytes → want_of_kind_at k bytes ≡ Some z → Takes (k ∷ bytes) (want_bytes false z.0) z.1 × IsSpelledWant false z.0
unfolding want_of_kind_at
want_takes zero bytes z fits e = absurd cc
want_takes (suc zero) bytes z fits e =
    kind_takes 1 not_after_at (λ (n : ℕ). NotAfter n) (to_be_bytes w64) (λ n. Fits64 n × (true ≡ true)) (want_bytes false) (IsSpelledWant false) not_after_case (λ n. refl) (λ n fit. (fit.0, tt)) bytes z fits e
want_takes (suc (suc zero)) bytes z fits e =
    subst (λ (y : Want × List ℕ). Takes (2 ∷ bytes) (want_bytes false y.0) y.1 × IsSpelledWant false y.0) (some_is (Exists, bytes) z e) (record { parts = refl; rest_fits = fits }, (tt, tt))
want_takes (suc (suc (suc zero))) bytes z fits e =
    subst (λ (y : Want × List ℕ). Takes (3 ∷ bytes) (want_bytes false y.0) y.1 × IsSpelledWant false y.0) (some_is (Absent, bytes) z e) (record { parts = refl; rest_fits = fits }, (tt, tt))
want_takes (suc (suc (suc (suc k)))) bytes z fits e = absurd cc

want_again : (w : Want) (rest : List ℕ) → IsSpelledWant false w → tagged want_of_kind_at (want_bytes false w ++ rest) ≡ Some (w, rest)
unfolding want_of_kind_at
want_again (NotAfter n) rest fit = not_after_case.again n rest (fit.0, refl)
want_again Exists rest fit = refl
want_again Absent rest fit = refl

later_want_field : IsField (want_at false) (want_bytes false) (IsSpelledWant false)
unfolding want_at
later_want_field = tagged_field want_of_kind_at (want_bytes false) (IsSpelledWant false) want_takes want_again

want_field : (first : Bool) → IsField (want_at first) (want_bytes first) (IsSpelledWant first)
want_field true = first_want_field
want_field false = later_want_field

abbrev condition : Tuple → Want → Condition
condition t w = record { tuple = t; want = w }

abbrev pub IsCondition : Bool → Condition → Type 0
IsCondition first c = IsTuple c.tuple × IsSpelledWant first c.want

condition_field : (first : Bool) → IsField (condition_at first) (condition_bytes first) (IsCondition first)
unfolding condition_at
condition_field first = field_of (condition_at first) (λ (x : Tuple × Want). condition x.0 x.1) (λ x. tuple_bytes x.0 ++ want_bytes first x.1) (λ x. (IsTuple x.0 × IsSpelledWant first x.1) × (true ≡ true)) (condition_bytes first) (IsCondition first)
    (two_case tuple_at tuple_bytes IsTuple (want_at first) (want_bytes first) (IsSpelledWant first) (λ t w. true) condition tuple_field (want_field first))
    (λ x. refl)
    (λ x fit. fit.0)
    (λ c fit. ((c.tuple, c.want), refl, (fit, refl)))

-- ---- lists of them, and writes

abbrev pub AreChanges : List Change → Type 0
AreChanges cs = ((length cs ≤ 64) × AllByRecursion IsChange cs) × (are_distinct (changed cs) ≡ true)

abbrev changes_bytes : List Change → List ℕ
changes_bytes cs = length cs ∷ flat_map change_bytes cs

changes_field : IsField changes_at changes_bytes AreChanges
unfolding changes_at
changes_field = field_of changes_at (λ (cs : List Change). cs) changes_bytes AreChanges changes_bytes AreChanges
    (one_case (few_at byte_at change_at 64) changes_bytes (λ cs. (length cs ≤ 64) × AllByRecursion IsChange cs) (λ cs. are_distinct (changed cs)) (λ cs. cs)
    (few_field byte_at (λ b. b ∷ []) (λ b. b < 256) change_at change_bytes IsChange 64 byte_field change_field (λ n le. omega arith)))
    (λ cs. refl)
    (λ cs fit. fit)
    (λ cs fit. (cs, refl, fit))

abbrev pub AreConditions : Bool → List Condition → Type 0
AreConditions first cs = ((length cs ≤ 16) × AllByRecursion (IsCondition first) cs) × (are_distinct (conditioned cs) ≡ true)

abbrev conditions_bytes : Bool → List Condition → List ℕ
conditions_bytes first cs = length cs ∷ flat_map (condition_bytes first) cs

conditions_field : (first : Bool) → IsField (conditions_at first) (conditions_bytes first) (AreConditions first)
unfolding conditions_at
conditions_field first = field_of (conditions_at first) (λ (cs : List Condition). cs) (conditions_bytes first) (AreConditions first) (conditions_bytes first) (AreConditions first)
    (one_case (few_at byte_at (condition_at first) 16) (conditions_bytes first) (λ cs. (length cs ≤ 16) × AllByRecursion (IsCondition first) cs) (λ cs. are_distinct (conditioned cs)) (λ cs. cs)
    (few_field byte_at (λ b. b ∷ []) (λ b. b < 256) (condition_at first) (condition_bytes first) (IsCondition first) 16 byte_field (condition_field first) (λ n le. omega arith)))
    (λ cs. refl)
    (λ cs fit. fit)
    (λ cs fit. (cs, refl, fit))

abbrev entry : WriteId → List Change → List Condition → Entry
entry i cs ds = record { id = i; changes = cs; conditions = ds }

pub record IsSpelledEntry (first : Bool) (w : Entry) : Type 0 where
  pub id : IsWriteId w.id
  pub changes : AreChanges w.changes
  pub conditions : AreConditions first w.conditions

pub entry_field : (first : Bool) → IsField (entry_at first) (entry_bytes first) (IsSpelledEntry first)
unfolding entry_at
entry_field first = field_of (entry_at first) (λ (x : WriteId × List Change × List Condition). entry x.0 x.1 x.2) (λ x. id_bytes x.0 ++ (changes_bytes x.1 ++ conditions_bytes first x.2)) (λ x. (IsWriteId x.0 × AreChanges x.1 × AreConditions first x.2) × (true ≡ true)) (entry_bytes first) (IsSpelledEntry first)
    (three_case write_id_at id_bytes IsWriteId changes_at changes_bytes AreChanges (conditions_at first) (conditions_bytes first) (AreConditions first) (λ i cs ds. true) entry write_id_field changes_field (conditions_field first))
    (λ x. refl)
    (λ x fit. record { id = fit.0.0; changes = fit.0.1; conditions = fit.0.2 })
    (λ w fit. ((w.id, w.changes, w.conditions), refl, ((fit.id, fit.changes, fit.conditions), refl)))
