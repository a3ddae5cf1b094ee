-- What the banks have between two flushes.
use Rattle.std.specs.Prelude.{◌≡◌, ℕ, Bool, true, false, List, Some, None}
use Rattle.records.specs.declared.record.Record.{Record}
use Rattle.device.specs.Device.{State, left}
use Rattle.gated.specs.Gated.{HasList}
use Rattle.records.specs.Checkpoints.{generation_of}
use Rattle.records.specs.Inside.{begun_by}
use Rattle.journal.specs.Records.{bank_records, batches, current_bank}

-- every content that a stop may leave has these records
abbrev pub BankHas : State → List Record → Type 0
BankHas s rs = (c : List ℕ) → left s c → bank_records c ≡ Some rs

-- one list of batches, whatever a stop leaves, of a device that has not failed
pub record IsAtRest (s : State) : Type 0 where
  pub bodies : List (List ℕ)
  pub rs : List Record
  pub has : HasList s bodies
  pub read : batches bodies ≡ Some rs
  pub up : s.stopped ≡ false

-- the record begins no checkpoint
abbrev pub IsPlain : Record → Type 0
IsPlain r = begun_by r ≡ None

-- one of two
abbrev pub bank_of : {X : Type 0} → Bool → X → X → X
bank_of true a b = b
bank_of false a b = a

-- of the banks, whatever a stop leaves of them, one is current, and of this generation
pub record AreLed (sa sb : State) (is_b : Bool) (generation : ℕ) : Type 0 where
  pub first : List Record
  pub other : List Record
  pub a : BankHas sa first
  pub b : BankHas sb other
  pub leads : current_bank first other ≡ Some is_b
  pub generation_is : generation ≡ generation_of (bank_of is_b first other)
