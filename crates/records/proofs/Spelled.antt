-- The laws of a batch: what is spelled is read, and what is read is spelled so.
use Rattle.std.proofs.Common.{◌≡◌, ◌≤◌, ◌^◌, ℕ, zero, suc, Bool, true, false, ◌&&◌, leb, eqb, List, [], ◌∷◌, ◌++◌, length, Some, refl, sym, ap, subst, ◌∙◌, arith, inl, inr}
use Rattle.std.specs.Int.{w16, to_be_bytes}
use Rattle.std.specs.List.{flat_map, AllByRecursion}
use Rattle.std.proofs.lemmas.Bool.{leb-true, le-leb, eqb-true, and_parts}
use Rattle.std.proofs.lemmas.List.{append-nil, nil_from_length}
use Rattle.records.specs.declared.record.Record.{Record}
use Rattle.records.specs.Format.{AreRecords, IsBatch, IsOfFirst, batch_bytes, record_bytes}
use Rattle.records.specs.Reading.{◌>>=◌, if_passes, number_at, list_at, record_at, records_at, version_of, batch}
use Rattle.records.proofs.Fields.{IsBytes, IsBytes-rest, Takes-then, bind_some, number_takes, number_again, passed, wide16}
use Rattle.records.proofs.Lists.{list_takes, list_again}
use Rattle.records.proofs.Records.{IsSpelled, record_field}

abbrev records_bytes : Bool → List Record → List ℕ
records_bytes first rs = to_be_bytes w16 (length rs) ++ flat_map (record_bytes first) rs

record AreSpelled (first : Bool) (bytes : List ℕ) (rs : List Record) : Type 0 where
  some : 1 ≤ length rs
  few : length rs ≤ 65535
  records : AllByRecursion (IsSpelled first) rs
  spelled : bytes ≡ records_bytes first rs

records_take : (first : Bool) (bytes : List ℕ) (rs : List Record) → IsBytes bytes → records_at first bytes ≡ Some rs → AreSpelled first bytes rs
unfolding records_at
records_take first bytes rs fits e =
    let a = bind_some (number_at w16 bytes) (λ n. list_at (record_at first) n.0 n.1 >>= λ x. if_passes (leb 1 n.0 && eqb (length x.1) 0) x.0) rs e in
    let b = bind_some (list_at (record_at first) a.0.0 a.0.1) (λ x. if_passes (leb 1 a.0.0 && eqb (length x.1) 0) x.0) rs a.2 in
    let g = passed (leb 1 a.0.0 && eqb (length b.0.1) 0) b.0.0 rs b.2 in
    let h = and_parts (leb 1 a.0.0) (eqb (length b.0.1) 0) g.0 in
    let one : 1 ≤ a.0.0 = leb-true _ _ h.0 in
    let first_field = number_takes w16 (2 ^ 16) wide16 bytes a.0 fits a.1 in
    let second = list_takes (record_at first) (record_bytes first) (IsSpelled first) (record_field first) a.0.0 a.0.1 b.0 first_field.0.rest_fits b.1 in
    let nothing : b.0.1 ≡ [] = nil_from_length b.0.1 (eqb-true _ _ h.1) in
    let both = (Takes-then bytes (to_be_bytes w16 a.0.0) a.0.1 (flat_map (record_bytes first) b.0.0) b.0.1 first_field.0 second.0).parts in
    let whole : bytes ≡ records_bytes first b.0.0 = both ∙ ap (λ (r : List ℕ). (to_be_bytes w16 a.0.0 ++ flat_map (record_bytes first) b.0.0) ++ r) nothing ∙ append-nil (to_be_bytes w16 a.0.0 ++ flat_map (record_bytes first) b.0.0) ∙ ap (λ (k : ℕ). to_be_bytes w16 k ++ flat_map (record_bytes first) b.0.0) (sym second.1) in
    subst (λ (v : List Record). AreSpelled first bytes v) g.1 (record { some = omega (arith, second.1, one); few = omega (arith, second.1, first_field.1); records = second.2; spelled = whole })

records_again : (first : Bool) (rs : List Record) → 1 ≤ length rs → length rs ≤ 65535 → AllByRecursion (IsSpelled first) rs → records_at first (records_bytes first rs) ≡ Some rs
unfolding records_at
records_again first rs some few records =
    let rest : list_at (record_at first) (length rs) (flat_map (record_bytes first) rs) ≡ Some (rs, []) = ap (list_at (record_at first) (length rs)) (sym (append-nil (flat_map (record_bytes first) rs))) ∙ list_again (record_at first) (record_bytes first) (IsSpelled first) (record_field first) rs [] records in
    let one : leb 1 (length rs) ≡ true = le-leb _ _ some in
    rw (number_again w16 (2 ^ 16) wide16 (length rs) (flat_map (record_bytes first) rs) (omega (arith, few)), rest, one) refl

all_later : (rs : List Record) → AreRecords rs → AllByRecursion (IsSpelled false) rs
all_later [] all = tt
all_later (r ∷ rs) all = ((all.0, tt), all_later rs all.1)

all_first : (rs : List Record) → AreRecords rs → AllByRecursion IsOfFirst rs → AllByRecursion (IsSpelled true) rs
all_first [] all places = tt
all_first (r ∷ rs) all places = ((all.0, places.0), all_first rs all.1 places.1)

are_records : (first : Bool) (rs : List Record) → AllByRecursion (IsSpelled first) rs → AreRecords rs
are_records first [] all = tt
are_records first (r ∷ rs) all = (all.0.0, are_records first rs all.1)

are_of_first : (rs : List Record) → AllByRecursion (IsSpelled true) rs → AllByRecursion IsOfFirst rs
are_of_first [] all = tt
are_of_first (r ∷ rs) all = (all.0.1, are_of_first rs all.1)

-- what is written is read
pub batch_spelled : (rs : List Record) → 1 ≤ length rs → length rs ≤ 65535 → AreRecords rs → batch (batch_bytes false rs) ≡ Some rs
unfolding batch batch_bytes version_of
batch_spelled rs some few records = records_again false rs some few (all_later rs records)

-- what version 1 spells is read too
pub first_batch_spelled : (rs : List Record) → 1 ≤ length rs → length rs ≤ 65535 → AreRecords rs → AllByRecursion IsOfFirst rs → batch (batch_bytes true rs) ≡ Some rs
unfolding batch batch_bytes version_of
first_batch_spelled rs some few records of_first = records_again true rs some few (all_first rs records of_first)

-- what is read is spelled so
pub batch_is : (bytes : List ℕ) → IsBytes bytes → (rs : List Record) → batch bytes ≡ Some rs → IsBatch bytes rs
unfolding batch batch_bytes version_of
batch_is [] fits rs e = absurd cc
batch_is (zero ∷ bytes) fits rs e = absurd cc
batch_is (suc zero ∷ bytes) fits rs e =
    let h = records_take true bytes rs (IsBytes-rest 1 bytes fits) e in
    record { some = h.some; few = h.few; records = are_records true rs h.records; spelled = inr (ap (λ (x : List ℕ). 1 ∷ x) h.spelled, are_of_first rs h.records) }
batch_is (suc (suc zero) ∷ bytes) fits rs e =
    let h = records_take false bytes rs (IsBytes-rest 2 bytes fits) e in
    record { some = h.some; few = h.few; records = are_records false rs h.records; spelled = inl (ap (λ (x : List ℕ). 2 ∷ x) h.spelled) }
batch_is (suc (suc (suc k)) ∷ bytes) fits rs e = absurd cc

-- a batch is read as what it spells
pub batch_reads : (bytes : List ℕ) (rs : List Record) → IsBatch bytes rs → batch bytes ≡ Some rs
batch_reads bytes rs h =
    elim (h.spelled) [
      | inl e ↦ ap batch e ∙ batch_spelled rs h.some h.few h.records
      | inr e ↦ ap batch e.0 ∙ first_batch_spelled rs h.some h.few h.records e.1
    ]
