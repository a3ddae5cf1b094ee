-- Writes that came to nothing over small devices that rest, and others that have not.
use Rattle.std.proofs.Common.{◌≤◌, ℕ, [], ◌∷◌, refl, arith}
use Rattle.tuples.specs.declared.entry.Entry.{Entry}
use Rattle.tuples.specs.declared.entry.WriteId.{WriteId}
use Rattle.gated.specs.Gated.{gated}
use Rattle.journal.specs.Records.{current_bank, found}
use Rattle.records.specs.Checkpoints.{is_complete}
use Rattle.records.specs.Coordinators.{coordinator_state}
use Rattle.laws.specs.Machines.{Machine}
use Rattle.laws.specs.Nodes.{NodeName, coordinator}
use Rattle.stores.specs.NewStores.{empty_machine}
use Rattle.stores.specs.Stores.{stops}
use Rattle.headline.specs.PastWrites.{IsPastOver}
use Rattle.headline.proofs.SmallHeadline.{IsHonest, at_once, itself, left_now, unmade, unmade_honest}

abbrev IsSmallPast : Machine → WriteId → Type 0
IsSmallPast = IsPastOver itself IsHonest at_once left_now 7 1 (λ (n : NodeName). (unmade, unmade))

abbrev of_epoch : ℕ → WriteId
of_epoch epoch = record { epoch = epoch; number = 1 }

-- over devices to which nothing was written an id of an epoch before the first has come to nothing
past_before_all : IsSmallPast empty_machine (of_epoch 0)
past_before_all = record { given = λ found there. omega arith; unlisted = λ j w at same. absurd cc }

-- one of the first epoch may still be given out
found_empty : stops itself IsHonest 7 1 (λ (n : NodeName). (unmade, unmade)) coordinator []
unfolding found gated current_bank is_complete
found_empty = ([], [], unmade_honest.reads_left refl, unmade_honest.reads_left refl, refl)

yet_to_be_given : IsSmallPast empty_machine (of_epoch 1) → ⊥
unfolding coordinator_state
yet_to_be_given past = let low : 1 ≤ (coordinator_state []).epoch = past.given [] found_empty in omega (arith, low)

-- and a write that the log lists has not come to nothing
listed : (w : Entry) → IsSmallPast (record empty_machine { log = w ∷ [] }) w.id → ⊥
listed w past = past.unlisted 0 w refl refl
