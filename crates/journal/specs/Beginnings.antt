-- The first checkpoint of devices that were empty: it has begun, and what it holds comes later.
use Rattle.std.specs.Prelude.{◌≡◌, ◌⊎◌, ℕ, Bool, false, List, [], ◌∷◌, Some, None}
use Rattle.device.specs.Device.{State, left}
use Rattle.gated.specs.Gated.{HasList, IsAhead}
use Rattle.records.specs.Reading.{batch}
use Rattle.records.specs.declared.mark.Mark.TheVariants.{Begins}
use Rattle.records.specs.declared.record.Record.{Record}
use Rattle.records.specs.declared.record.Record.TheVariants.{Checkpoint}
use Rattle.journal.specs.Records.{bank_records, found}

-- its two devices, and whether its end was not tried yet
pub record BegunView (D : Type 0) : Type 0 where
  pub a : D
  pub b : D
  pub is_open : Bool

-- the record that begins a checkpoint of the first generation
abbrev pub begins : Record
begins = Checkpoint (Begins 1)

-- no content that a stop may leave has records: each opening finds damage
abbrev pub NeverOpens : State → State → Type 0
NeverOpens sa sb = (x y : List ℕ) → left sa x → left sb y → found x y ≡ None

-- the contents have no record, or none that an opening takes
abbrev pub HasNoneOrNeverOpens : List ℕ → List ℕ → Type 0
HasNoneOrNeverOpens x y = (found x y ≡ Some []) ⊎ (found x y ≡ None)

-- the contents have none that an opening takes, or these records
abbrev pub NeverOpensOr : List Record → List ℕ → List ℕ → Type 0
NeverOpensOr rs x y = (found x y ≡ None) ⊎ (found x y ≡ Some rs)

-- the content has no record
abbrev pub HasNone : List ℕ → Type 0
HasNone c = bank_records c ≡ Some []

-- the content has no record, or that one
abbrev pub HasNoneOrBegins : List ℕ → Type 0
HasNoneOrBegins c = HasNone c ⊎ (bank_records c ≡ Some (begins ∷ []))

-- the content has that record alone, or these
abbrev pub HasBeginsOr : List Record → List ℕ → Type 0
HasBeginsOr rs c = (bank_records c ≡ Some (begins ∷ [])) ⊎ (bank_records c ≡ Some rs)

-- that record alone is the list of a device that has not failed, and nothing is ahead of it
pub record HasBegun (s : State) (end at : ℕ) : Type 0 where
  pub body : List ℕ
  pub read : batch body ≡ Some (begins ∷ [])
  pub list : HasList s (body ∷ [])
  pub none : IsAhead s end at []
  pub up : s.stopped ≡ false
