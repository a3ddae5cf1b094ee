-- A checkpoint that is written ahead of the list of the bank that is not current.
use Rattle.std.specs.Prelude.{◌≡◌, ◌⊎◌, ◌≤◌, ◌+◌, ℕ, List, [], ◌∷◌, ◌++◌, Some, length}
use Rattle.records.specs.declared.mark.Mark.TheVariants.{Begins, Ends}
use Rattle.records.specs.declared.record.Record.{Record}
use Rattle.records.specs.declared.record.Record.TheVariants.{Checkpoint}
use Rattle.device.specs.Device.{HasFailed, LeavesOnly, State}
use Rattle.gated.specs.Gated.{HasList, IsAhead, gated, record_head}
use Rattle.journal.specs.Records.{BankLacksRoom, HasOldOrNew, LacksRoom, View, bank_records, batch_size, batches, found}

-- the checkpoint of this generation with these records
abbrev pub checkpoint_of : ℕ → List Record → List Record
checkpoint_of generation rs = Checkpoint (Begins generation) ∷ rs ++ Checkpoint (Ends generation) ∷ []

-- whatever list a device has, a stop leaves it at every moment of a call and after it
pub record KeepsLists {D : Type 0} (state : D → State) (moment : D → ℕ) (left_since : D → ℕ → List ℕ → Type 0) (old new : D) : Type 0 where
  pub moments : (bodies : List (List ℕ)) → HasList (state old) bodies → LeavesOnly moment left_since old new (λ c. gated c ≡ Some bodies)
  pub list : (bodies : List (List ℕ)) → HasList (state old) bodies → HasList (state new) bodies

-- batches of these records are ahead
pub record IsWriting (s : State) (end at : ℕ) (rs : List Record) : Type 0 where
  pub ahead : List (List ℕ)
  pub is : IsAhead s end at ahead
  pub read : batches ahead ≡ Some rs

-- these records are ahead, but for the last of them, which are not written yet
pub record IsPut (s : State) (end at : ℕ) (piece all : List Record) : Type 0 where
  pub rs : List Record
  pub writing : IsWriting s end at rs
  pub all_is : all ≡ rs ++ piece

-- some batch has no room ahead of the list
pub record LacksRoomAhead {D : Type 0} (state : D → State) (honest : D → Type 0) (bank : D) : Type 0 where
  pub at : ℕ
  pub piece : List Record
  pub lacks : LacksRoom state honest bank at piece

-- what a checkpoint that failed has as a cause
abbrev pub HasPointCause : {D : Type 0} → (D → State) → (D → Type 0) → View D → View D → Type 0
HasPointCause state honest old new = HasFailed (state old.a) (state new.a) ⊎ (HasFailed (state old.b) (state new.b)
    ⊎ (BankLacksRoom state honest old.a old.b old.end old.staged ⊎ (LacksRoomAhead state honest new.a ⊎ LacksRoomAhead state honest new.b)))

-- a list ends where it did, or, if some records were staged, after a batch of them
abbrev pub StaysOrGains : ℕ → List Record → ℕ → Type 0
StaysOrGains old staged new = (new ≡ old) ⊎ ((1 ≤ length staged) × (new ≡ old + batch_size staged + record_head))

-- the list, the empty one, or the records
abbrev pub IsOldNoneOr : List (List ℕ) → List Record → List ℕ → Type 0
IsOldNoneOr bodies rs c = (gated c ≡ Some bodies) ⊎ ((gated c ≡ Some []) ⊎ (bank_records c ≡ Some rs))

-- the contents have the old records, or the longer list, or these
abbrev pub HasOldOrNewOr : List Record → List Record → List Record → List ℕ → List ℕ → Type 0
HasOldOrNewOr durable staged rs a b = HasOldOrNew durable staged a b ⊎ (found a b ≡ Some rs)
