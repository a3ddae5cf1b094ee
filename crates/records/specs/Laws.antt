-- What holds of the bytes of records, whatever the records are.
use Rattle.std.specs.Prelude.{◌≡◌, ℕ, Bool, true, List, ◌++◌}
use Rattle.records.specs.declared.record.Record.{Record}
use Rattle.records.specs.Format.{IsRecord, IsOfFirst, record_bytes}

-- It has a spelling in version 1 if the flag says so, else in version 2.
pub record HasSpelling (first : Bool) (r : Record) : Type 0 where
  pub is_record : IsRecord r
  pub of_first : first ≡ true → IsOfFirst r

-- Within a version, bytes begin with the spelling of at most one record, whatever follows it. So no spelling begins another.
abbrev pub NoneBeginsAnother : Type 0
NoneBeginsAnother = (first : Bool) (r s : Record) (behind_r behind_s : List ℕ) → HasSpelling first r → HasSpelling first s
    → record_bytes first r ++ behind_r ≡ record_bytes first s ++ behind_s → (r ≡ s) × (behind_r ≡ behind_s)
