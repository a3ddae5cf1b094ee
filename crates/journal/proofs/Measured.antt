-- How long one record is of which a batch is made.
use Rattle.std.specs.Prelude.{◌≡◌, ◌+◌, ◌∷◌, [], ℕ, List, take, false}
use Rattle.std.specs.List.{flat_map}
use Rattle.std.proofs.Common.{ap, arith, length, length-append, ◌∙◌}
use Rattle.std.proofs.lemmas.List.{append-nil}
use Rattle.records.specs.declared.record.Record.{Record}
use Rattle.records.specs.Format.{record_bytes}
use Rattle.journal.specs.Records.{batch_size}
use Rattle.journal.specs.Lending.{Flies}
use Rattle.journal.specs.Measures.{bytes_of}
use Rattle.journal.specs.declared.lending.Sent.{Sent}
use Rattle.journal.proofs.Staged.{batch_size_is}

one_size : (r : Record) → batch_size (r ∷ []) ≡ 3 + length (record_bytes false r)
one_size r = omega (arith, batch_size_is (r ∷ []), ap length (append-nil (record_bytes false r)))

pub len_of_one : (r : Record) (staged : List Record) (sent : Sent) → staged ≡ r ∷ [] → sent.count ≡ length staged → Flies staged sent → sent.len ≡ length (record_bytes false r)
len_of_one r staged sent is all flies =
    let one : sent.count ≡ 1 = omega (arith, all, ap length is) in
    let taken : batch_size (take sent.count staged) ≡ batch_size (r ∷ []) = ap (λ (rs : List Record). batch_size (take sent.count rs)) is ∙ ap (λ (n : ℕ). batch_size (take n (r ∷ []))) one in
    omega (arith, flies.len, taken, one_size r)

pub bytes_more : (all rest : List Record) (r : Record) → all ≡ r ∷ rest → bytes_of all ≡ length (record_bytes false r) + bytes_of rest
unfolding bytes_of
bytes_more all rest r is = ap (λ (rs : List Record). length (flat_map (record_bytes false) rs)) is ∙ length-append (record_bytes false r) (flat_map (record_bytes false) rest)

pub bytes_none : (all : List Record) → all ≡ [] → bytes_of all ≡ 0
unfolding bytes_of
bytes_none all is = ap (λ (rs : List Record). length (flat_map (record_bytes false) rs)) is
