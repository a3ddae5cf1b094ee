-- The records of batches that were not read yet.
use Rattle.std.specs.Prelude.{◌≡◌, ◌<◌, ◌+◌, ℕ, false, List, [], ◌∷◌, length, Option, Some}
use Rattle.records.specs.declared.record.Record.{Record}
use Rattle.records.specs.Reading.{batch}
use Rattle.journal.specs.Records.{View, batches, both, or_none}

-- the records that are left, none if a batch among them is no batch, and a number that each record read makes smaller
pub record Left : Type 0 where
  pub records : Option (List Record)
  pub steps : ℕ

-- one for each batch, and one for each record of it
abbrev pub steps_of : List (List ℕ) → ℕ
steps_of [] = 0
steps_of (b ∷ bs) = length (or_none (batch b)) + 1 + steps_of bs

-- these records, and then those of the batches
abbrev pub left_of : List Record → List (List ℕ) → Left
left_of rs bodies = record { records = both (Some rs) (batches bodies); steps = length rs + steps_of bodies }

-- this record was the first one, and the others are left
pub record IsRead (old : Left) (r : Record) (new : Left) : Type 0 where
  pub records : old.records ≡ both (Some (r ∷ [])) new.records
  pub steps : new.steps < old.steps

-- the batches began with one of these records
pub record IsBatchRead (old : List (List ℕ)) (rs : List Record) (new : List (List ℕ)) : Type 0 where
  pub records : batches old ≡ both (Some rs) (batches new)
  pub steps : steps_of old ≡ length rs + 1 + steps_of new

-- two devices whose records were found: none if a batch is no batch
pub record OpeningView (D : Type 0) : Type 0 where
  pub a : D
  pub b : D
  pub end : ℕ
  pub records : Option (List Record)

-- the journal of the devices
abbrev pub journal_of : {D : Type 0} → OpeningView D → View D
journal_of o = record { a = o.a; b = o.b; end = o.end; durable = or_none o.records; staged = []; is_down = false }
