-- A record of so many bytes, and what is staged.
use Rattle.std.proofs.Common.{◌≢◌, ⊎_elim, ◌≤◌, ◌+◌, ℕ, false, List, [], ◌∷◌, ◌++◌, length, ap, arith}
use Rattle.records.specs.declared.record.Record.{Record}
use Rattle.records.specs.Format.{record_bytes}
use Rattle.journal.specs.Records.{HasNoRoom, batch_size}
use Rattle.journal.specs.Staging.{staged_in, IsSpelled}
use Rattle.journal.proofs.Staged.{size_with, staged_is}

pub room_for : (bytes : List ℕ) (capacity count : ℕ) (s : IsSpelled bytes capacity count) (r : Record) → count ≢ 65535 → length bytes + length (record_bytes false r) ≤ 1048580 → HasNoRoom (staged_in count bytes) r → ⊥
room_for bytes capacity count s r ne fits full =
    let is = staged_is bytes capacity count s in
    ⊎_elim
    (λ many. omega (arith, many, ap length is, s.number, s.few, ne))
    (λ long. omega (arith, long, ap (λ (rs : List Record). batch_size (rs ++ r ∷ [])) is, size_with bytes capacity count s r, fits))
    full
