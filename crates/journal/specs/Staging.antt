-- The bytes of the records that are staged.
use Rattle.std.specs.Prelude.{◌≡◌, ◌≤◌, ◌+◌, ◌==◌, ℕ, false, if◌then◌else◌, List, [], ◌∷◌, ◌++◌, length, drop}
use Rattle.std.specs.List.{flat_map}
use Rattle.std.specs.Int.{w16, to_be_bytes}
use Rattle.records.specs.declared.record.Record.{Record}
use Rattle.records.specs.Format.{AreRecords, record_bytes}
use Rattle.records.specs.Reading.{batch}
use Rattle.gated.specs.Gated.{max_body}
use Rattle.journal.specs.Records.{max_records, or_none}

-- the most bytes before the last one: four that the log fills, and a body
abbrev pub max_len : ℕ
max_len = max_body + 4

-- the records of so many, whose bytes stand after seven others
unfoldable pub staged_in : ℕ → List ℕ → List Record
staged_in count bytes = if count == 0 then [] else or_none (batch (2 ∷ to_be_bytes w16 count ++ drop 7 bytes))

-- Seven bytes of room, and the bytes of these records, no more than a batch may have. There is room for a byte after them.
pub record IsSpelled (bytes : List ℕ) (capacity count : ℕ) : Type 0 where
  pub rs : List Record
  pub are_records : AreRecords rs
  pub number : length rs ≡ count
  pub few : count ≤ max_records
  pub front : 7 ≤ length bytes
  pub spelled : drop 7 bytes ≡ flat_map (record_bytes false) rs
  pub fits : length bytes ≤ max_len
  pub room : max_len + 1 ≤ capacity
