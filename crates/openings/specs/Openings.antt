-- What an opening makes of two devices, whatever kind of node they are of.
use Rattle.std.specs.Prelude.{◌≡◌, ◌⊎◌, ◌<◌, ◌+◌, ℕ, List, [], ◌∷◌, ◌++◌, Option, Some}
use Rattle.records.specs.declared.record.Record.{Record}
use Rattle.records.specs.declared.record.Record.TheVariants.{Epoch}
use Rattle.records.specs.Identity.{Identity}
use Rattle.records.specs.Replays.{greatest_number}
use Rattle.device.specs.Device.{State}
use Rattle.journal.specs.Records.{BankLacksRoom, HasRecords, IsOpened, View, WasLeftOrFound, found}

-- the records with one more opening
abbrev pub reopened : (List Record → ℕ) → Identity → List Record → List Record
reopened epoch_in me rs = rs ++ Epoch (epoch_in rs + 1) me.store me.shards me.node ∷ []

-- the records were found, they are those of this node, and the memory was made of them
pub record AreReplayed {M : Type 0} (IsImage : Identity → List Record → Type 0) (IsMadeOf : List Record → M → Type 0) (me : Identity) (records : Option (List Record)) (memory : M) : Type 0 where
  pub rs : List Record
  pub found : records ≡ Some rs
  pub image : IsImage me rs
  pub made_of : IsMadeOf rs memory

-- a journal was opened over devices that had these records: they are those of this node, a memory was made of them, and one more opening is durable
pub record IsReopened {D M : Type 0} (state : D → State) (honest : D → Type 0) (IsImage : Identity → List Record → Type 0) (IsMadeOf : List Record → M → Type 0) (epoch_in : List Record → ℕ)
    (a b : D) (me : Identity) (journal : View D) (memory : M) : Type 0 where
  pub rs : List Record
  pub was : honest a → honest b → found (state a).seen (state b).seen ≡ Some rs
  pub image : IsImage me rs
  pub made_of : IsMadeOf rs memory
  pub below : epoch_in rs < greatest_number
  pub again : IsImage me (reopened epoch_in me rs)
  pub durable : honest a → honest b → journal.durable ≡ reopened epoch_in me rs
  pub rest : honest a → honest b → HasRecords (state journal.a) (state journal.b) journal.durable

-- a journal that was opened over these devices has no room for the record of an opening
pub record LacksRoomToReopen {D : Type 0} (state : D → State) (honest : D → Type 0) (epoch_in : List Record → ℕ) (a b : D) (me : Identity) : Type 0 where
  pub rs : List Record
  pub journal : View D
  pub found : honest a → honest b → IsOpened state a b rs journal
  pub same : honest a → honest journal.a
  pub same_b : honest b → honest journal.b
  pub lacks : BankLacksRoom state honest journal.a journal.b journal.end (Epoch (epoch_in rs + 1) me.store me.shards me.node ∷ [])

-- at a moment of an opening the contents have the records of some that could be left before it, or those found with the opening's
abbrev pub WasLeftOrReopened : (Identity → List Record → Type 0) → (List Record → ℕ) → Identity → State → State → List ℕ → List ℕ → Type 0
WasLeftOrReopened IsImage epoch_in me sa sb x y = WasLeftOrFound sa sb x y
    ⊎ ((rs : List Record) × (found sa.seen sb.seen ≡ Some rs) × IsImage me (reopened epoch_in me rs) × (found x y ≡ Some (reopened epoch_in me rs)))
