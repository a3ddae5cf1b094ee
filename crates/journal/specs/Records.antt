-- The records that two contents have, and a journal as its callers see it.
use Rattle.std.specs.Prelude.{◌≡◌, ◌⊎◌, ◌≤◌, ◌<◌, ◌+◌, ◌&&◌, ℕ, Bool, true, false, nat_lt, if◌then◌else◌, List, [], ◌∷◌, ◌++◌, length, Option, Some, None}
use Rattle.records.specs.declared.record.Record.{Record}
use Rattle.records.specs.Format.{batch_bytes}
use Rattle.records.specs.Reading.{batch}
use Rattle.device.specs.Device.{State, left, HasFailed}
use Rattle.device.specs.declared.tear.Tear.{Tear}
use Rattle.gated.specs.Gated.{gated, max_body, max_device, record_head}
use Rattle.records.specs.Checkpoints.{generation_of, is_complete}
use Rattle.journal.specs.declared.refused.Bank.{Bank}
use Rattle.journal.specs.declared.refused.Bank.TheVariants.{A, B}

abbrev pub both : Option (List Record) → Option (List Record) → Option (List Record)
both None rs = None
both (Some rs) None = None
both (Some rs) (Some more) = Some (rs ++ more)

-- the records of batches, one after another
abbrev pub batches : List (List ℕ) → Option (List Record)
batches [] = Some []
batches (b ∷ bs) = both (batch b) (batches bs)

abbrev pub then_batches : Option (List (List ℕ)) → Option (List Record)
then_batches None = None
then_batches (Some bodies) = batches bodies

-- the records that the content of one bank has
abbrev pub bank_records : List ℕ → Option (List Record)
bank_records c = then_batches (gated c)

abbrev pub has_none : List Record → Bool
has_none [] = true
has_none (r ∷ rs) = false

-- bank b has no records but after a checkpoint: without one a bank is written first
abbrev pub is_behind_checkpoint : List Record → Bool
is_behind_checkpoint [] = true
is_behind_checkpoint (r ∷ rs) = nat_lt 0 (generation_of (r ∷ rs))

-- whether b is the current one of two banks: the complete one, of two the one of greater generation. None if they have one generation,
-- or if none is complete and one has a record.
abbrev pub later_bank : Bool → Bool → Bool → ℕ → ℕ → Option Bool
later_bank true true none g h = if nat_lt h g then Some false else if nat_lt g h then Some true else None
later_bank true false none g h = Some false
later_bank false true none g h = Some true
later_bank false false none g h = if none then Some false else None

-- the same of the banks of these records
unfoldable pub current_bank : List Record → List Record → Option Bool
current_bank rs ss = if is_behind_checkpoint ss then later_bank (is_complete rs) (is_complete ss) (has_none rs && has_none ss) (generation_of rs) (generation_of ss) else None

abbrev pub of_bank : Option Bool → List Record → List Record → Option (List Record)
of_bank None rs ss = None
of_bank (Some true) rs ss = Some ss
of_bank (Some false) rs ss = Some rs

-- the records of the current bank
abbrev pub of_current : Option (List Record) → Option (List Record) → Option (List Record)
of_current None more = None
of_current (Some rs) None = None
of_current (Some rs) (Some ss) = of_bank (current_bank rs ss) rs ss

-- the records that the contents of banks a and b have: those of the current bank. None if a batch of either is no batch, or there is no list.
unfoldable pub found : List ℕ → List ℕ → Option (List Record)
found a b = of_current (bank_records a) (bank_records b)

-- what devices that may have these contents may be found with
abbrev pub Finds : (List ℕ → Type 0) → (List ℕ → Type 0) → List Record → Type 0
Finds in_a in_b rs = (a b : List ℕ) × in_a a × in_b b × (found a b ≡ Some rs)

-- every choice of contents that a stop may leave has these records
abbrev pub HasRecords : State → State → List Record → Type 0
HasRecords sa sb rs = (a b : List ℕ) → left sa a → left sb b → found a b ≡ Some rs

abbrev pub or_none : Option (List Record) → List Record
or_none None = []
or_none (Some rs) = rs

-- the records of the last sync
abbrev pub durable_of : State → State → List Record
durable_of sa sb = or_none (found sa.durable sb.durable)

-- a journal as callers see it; its end is the place of the gate that ends the list of the current bank
pub record View (D : Type 0) : Type 0 where
  pub a : D
  pub b : D
  pub end : ℕ
  pub durable : List Record
  pub staged : List Record
  pub is_down : Bool

-- the bytes of a batch of these records
abbrev pub batch_size : List Record → ℕ
batch_size rs = length (batch_bytes false rs)

-- the most records of one batch
abbrev pub max_records : ℕ
max_records = 65535

-- one record more would make the staged batch too large
abbrev pub HasNoRoom : List Record → Record → Type 0
HasNoRoom staged r = (max_records ≤ length staged) ⊎ (max_body < batch_size (staged ++ r ∷ []))

-- a device reads as it did, or was made anew
abbrev pub IsReadAgain : State → State → Type 0
IsReadAgain old new = (new.seen ≡ old.seen) ⊎ (length new.seen ≤ 1)

-- an opening found these records: they are those of the devices as they read, and every stop leaves them; each bank reads as it did, or was made anew
pub record IsOpened {D : Type 0} (state : D → State) (a b : D) (rs : List Record) (new : View D) : Type 0 where
  pub was : found (state a).seen (state b).seen ≡ Some rs
  pub durable : new.durable ≡ rs
  pub has : HasRecords (state new.a) (state new.b) rs
  pub reads : IsReadAgain (state a) (state new.a)
  pub reads_b : IsReadAgain (state b) (state new.b)

-- with the staged batch, which is no larger than one may be, the list of a bank would end past the most bytes of a device
pub record LacksRoom {D : Type 0} (state : D → State) (honest : D → Type 0) (bank : D) (end : ℕ) (staged : List Record) : Type 0 where
  pub past : max_device ≤ end + batch_size staged + record_head
  pub sized : batch_size staged ≤ max_body
  -- and it is no longer than what the bank reads as
  pub within : honest bank → end < length (state bank).seen

-- one of the banks, the current one, has no room for the staged batch
abbrev pub BankLacksRoom : {D : Type 0} → (D → State) → (D → Type 0) → D → D → ℕ → List Record → Type 0
BankLacksRoom state honest a b end staged = LacksRoom state honest a end staged ⊎ LacksRoom state honest b end staged

-- a flush goes wrong only if a device failed, or the current bank has no room
abbrev pub HasCause : {D : Type 0} → (D → State) → (D → Type 0) → View D → View D → Type 0
HasCause state honest old new = HasFailed (state old.a) (state new.a) ⊎ (HasFailed (state old.b) (state new.b) ⊎ BankLacksRoom state honest old.a old.b old.end old.staged)

-- the batch that was staged stands at the end of the list
abbrev pub after_batch : {D : Type 0} → View D → ℕ
after_batch v = v.end + batch_size v.staged + record_head

-- a script is set on the device of this bank, and the other device is as it was
abbrev pub IsSetOn : {D : Type 0} → (D → ℕ → Tear → Type 0) → Bank → ℕ → Tear → D → D → D → D → Type 0
IsSetOn set A n tear old_a old_b new_a new_b = set new_a n tear × (new_b ≡ old_b)
IsSetOn set B n tear old_a old_b new_a new_b = set new_b n tear × (new_a ≡ old_a)

-- contents that a stop since a moment of each device may have left have the same records as these
abbrev pub HadRecords : {D : Type 0} → (D → ℕ → List ℕ → Type 0) → D → D → ℕ → ℕ → List ℕ → List ℕ → Type 0
HadRecords left_since a b t u x y = (v w : List ℕ) × left_since a t v × left_since b u w × (found x y ≡ found v w)

-- What a stop at any moment of a call leaves of two devices has P.
pub record LeavesEach {D : Type 0} (moment : D → ℕ) (left_since : D → ℕ → List ℕ → Type 0) (old_a old_b new_a new_b : D) (P : List ℕ → List ℕ → Type 0) : Type 0 where
  pub later_a : moment old_a ≤ moment new_a
  pub later_b : moment old_b ≤ moment new_b
  pub each : (x y : List ℕ) → left_since new_a (moment old_a) x → left_since new_b (moment old_b) y → P x y

-- What a stop at any moment of a call leaves of two devices has P. For a run that began earlier, a choice has the records of
-- one from before the call, or it has P.
pub record LeavesBoth {D : Type 0} (moment : D → ℕ) (left_since : D → ℕ → List ℕ → Type 0) (old_a old_b new_a new_b : D) (P : List ℕ → List ℕ → Type 0) : Type 0 where
  pub later_a : moment old_a ≤ moment new_a
  pub later_b : moment old_b ≤ moment new_b
  pub each : (x y : List ℕ) → left_since new_a (moment old_a) x → left_since new_b (moment old_b) y → P x y
  pub before : (t u : ℕ) (x y : List ℕ) → t ≤ moment old_a → u ≤ moment old_b → left_since new_a t x → left_since new_b u y
      → HadRecords left_since old_a old_b t u x y ⊎ P x y

-- the contents have the old records, or the longer list
abbrev pub HasOldOrNew : List Record → List Record → List ℕ → List ℕ → Type 0
HasOldOrNew durable staged a b = (found a b ≡ Some durable) ⊎ (found a b ≡ Some (durable ++ staged))

-- the contents have the records of some that could be left before an opening
abbrev pub WasLeftOrFound : State → State → List ℕ → List ℕ → Type 0
WasLeftOrFound sa sb a b = (v w : List ℕ) × left sa v × left sb w × (found a b ≡ found v w)
