-- What a coordinator keeps beside its journal: in memory what its records stand for, above the durable horizon.
use Rattle.std.specs.Prelude.{◌≡◌, ◌≤◌, ◌+◌, ◌-◌, ℕ, false, List, [], ◌∷◌, ◌++◌, Option, Some, None, All, drop, length, filter, not, ◌==◌}
use Rattle.tuples.specs.declared.entry.Entry.{Entry}
use Rattle.tuples.specs.declared.entry.WriteId.{WriteId}
use Rattle.records.specs.declared.record.Record.{Record}
use Rattle.records.specs.Coordinators.{CoordinatorState, coordinator_state, end_of}
use Rattle.records.specs.Replays.{Identity, greatest_number}
use Rattle.device.specs.Device.{State}
use Rattle.journal.specs.Records.{HasRecords, View}
use Rattle.ledger.specs.Ledgers.{LedgerValue}
use Rattle.openings.specs.Openings.{LacksRoomToReopen}
use Rattle.coordinator.specs.Staged.{AreInOrder, last_horizon}

-- the ids of this epoch with these numbers, the last of them first, before others
abbrev pub newest_first : ℕ → List ℕ → List WriteId → List WriteId
newest_first epoch [] ids = ids
newest_first epoch (n ∷ numbers) ids = newest_first epoch numbers (record { epoch = epoch; number = n } ∷ ids)

-- the numbers but this one
abbrev pub others : ℕ → List ℕ → List ℕ
others number = filter (λ n. not (n == number))

-- the horizon once what is staged is durable
abbrev pub risen : ℕ → Option ℕ → ℕ
risen horizon None = horizon
risen horizon (Some h) = h

-- the memory is what the durable records stand for, and those with the staged ones
pub record Remembers (kept_state whole : CoordinatorState) (ledger : LedgerValue) (epoch kept horizon : ℕ) (rising : Option ℕ) : Type 0 where
  pub opened : 1 ≤ epoch
  pub epoch_fits : epoch ≤ greatest_number
  pub kept_epoch : kept_state.epoch ≡ epoch
  pub epoch_is : whole.epoch ≡ epoch
  pub settled : ledger.awaited ≡ None
  pub first : whole.base ≤ ledger.base
  pub same_base : kept_state.base ≡ whole.base
  pub base : ledger.base ≡ horizon
  pub horizon_is : kept_state.horizon ≡ horizon
  pub kept_is : end_of kept_state ≡ kept
  pub kept_fits : kept ≤ greatest_number
  pub within : horizon ≤ kept
  pub end_is : end_of whole ≡ ledger.base + length ledger.log
  pub log : ledger.log ≡ drop (ledger.base - whole.base) whole.log
  pub more : List Entry
  pub longer : whole.log ≡ kept_state.log ++ more
  pub risen_is : whole.horizon ≡ risen horizon rising
  pub rises : horizon ≤ whole.horizon
  pub risen_within : whole.horizon ≤ end_of whole

-- over honest devices these records are the durable ones, which every stop leaves
pub record AreDurable {D : Type 0} (state : D → State) (journal : View D) (durable : List Record) : Type 0 where
  pub rest : HasRecords (state journal.a) (state journal.b) journal.durable
  pub same : durable ≡ journal.durable

-- a number that was given
pub record IsGivenNumber (given n : ℕ) : Type 0 where
  pub some : 1 ≤ n
  pub up_to : n ≤ given

-- The memory is that of two lists of records, of which the journal's are the staged ones if it is up, and the durable ones where the devices are
-- honest beside; and the numbers of the open writes were given.
pub record IsKept {D : Type 0} (state : D → State) (honest : D → Type 0) (journal : View D) (ledger : LedgerValue) (epoch kept horizon : ℕ) (rising : Option ℕ)
    (numbers : List ℕ) (given : ℕ) : Type 0 where
  pub durable : List Record
  pub staged : List Record
  pub remembers : Remembers (coordinator_state durable) (coordinator_state (durable ++ staged)) ledger epoch kept horizon rising
  pub in_order : AreInOrder horizon kept staged
  pub last : rising ≡ last_horizon None staged
  pub numbers_given : All (IsGivenNumber given) numbers
  pub given_fits : given ≤ greatest_number
  pub staged_is : journal.is_down ≡ false → staged ≡ journal.staged
  pub backed : journal.is_down ≡ false → honest journal.a → honest journal.b → AreDurable state journal durable

-- how often a coordinator of these records was opened
abbrev pub openings_in : List Record → ℕ
openings_in rs = (coordinator_state rs).epoch

-- what these records stand for
abbrev pub IsMemoryOf : List Record → CoordinatorState → Type 0
IsMemoryOf rs s = s ≡ coordinator_state rs

-- a journal that was opened over these devices has no room for the record of an opening
abbrev pub HasNoRoomToOpen : {D : Type 0} → (D → State) → (D → Type 0) → D → D → Identity → Type 0
HasNoRoomToOpen state honest = LacksRoomToReopen state honest openings_in
