-- The records that small images hold, computed: an opening, and what is left of it by a tear.
use Rattle.std.proofs.Common.{◌≡◌, ℕ, List, [], ◌∷◌, ◌++◌, take, drop, Some, None, refl}
use Rattle.records.specs.declared.record.Record.TheVariants.{Epoch}
use Rattle.records.specs.Reading.{batch, version_of, records_at, number_at, list_at, record_at, record_of_kind_at, epoch_at}
use Rattle.gated.specs.Gated.{gated}
use Rattle.records.specs.Checkpoints.{is_complete}
use Rattle.journal.specs.Records.{current_bank, found}

-- version 1, one record: an opening, epoch 1, of store 1 with two shards, at node 1
abbrev batch_of_an_opening : List ℕ
batch_of_an_opening = 1 ∷ 0 ∷ 1 ∷ 4 ∷ 0 ∷ 0 ∷ 0 ∷ 0 ∷ 0 ∷ 0 ∷ 0 ∷ 1 ∷ 0 ∷ 0 ∷ 0 ∷ 0 ∷ 0 ∷ 0 ∷ 0 ∷ 1 ∷ 2 ∷ 1 ∷ []

-- an open gate, the length 22, the batch, and a closed gate: 28 bytes
abbrev image : List ℕ
image = 165 ∷ 0 ∷ 0 ∷ 0 ∷ 22 ∷ batch_of_an_opening ++ 0 ∷ []

one_body : gated image ≡ Some (batch_of_an_opening ∷ [])
unfolding gated
one_body = refl

-- its first gate closed, it holds the empty list
closed_gate : gated (0 ∷ drop 1 image) ≡ Some []
unfolding gated
closed_gate = refl

-- without its last gate it holds no list
cut_short : gated (take 27 image) ≡ None
unfolding gated
cut_short = refl

-- nothing is asked of no byte or one
unmade : gated (165 ∷ []) ≡ Some []
unfolding gated
unmade = refl

one_opening : found image [] ≡ Some (Epoch 1 1 2 1 ∷ [])
unfolding found gated current_bank is_complete batch version_of records_at number_at list_at record_at record_of_kind_at epoch_at
one_opening = refl

no_records : found (0 ∷ drop 1 image) [] ≡ Some []
unfolding found gated current_bank is_complete
no_records = refl

not_found : found (take 27 image) [] ≡ None
unfolding found gated
not_found = refl
