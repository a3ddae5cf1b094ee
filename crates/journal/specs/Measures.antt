-- How long records are.
use Rattle.std.specs.Prelude.{ℕ, false, List, length}
use Rattle.std.specs.List.{flat_map}
use Rattle.records.specs.declared.record.Record.{Record}
use Rattle.records.specs.Format.{record_bytes}

-- the bytes of these records, one after the other
unfoldable pub bytes_of : List Record → ℕ
bytes_of rs = length (flat_map (record_bytes false) rs)
