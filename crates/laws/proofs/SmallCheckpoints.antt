-- Small checkpoints: what they stand for, and lists that look like one and are not.
use Rattle.std.proofs.Common.{◌≡◌, inl, inr, ⊎_elim, true, false, List, [], ◌∷◌, ◌++◌, Some, None, refl, arith}
use Rattle.std.proofs.lemmas.List.Elements.{All-nil}
use Rattle.tuples.specs.Parts.{shard_of}
use Rattle.tuples.specs.Versions.{collected, last_version}
use Rattle.tuples.specs.declared.entry.Entry.{Entry}
use Rattle.tuples.specs.declared.change.Change.TheVariants.{Touch}
use Rattle.tuples.proofs.Examples.{numbered, viewed}
use Rattle.records.specs.declared.mark.Mark.TheVariants.{Begins, Row, Ends}
use Rattle.records.specs.declared.record.Record.{Record}
use Rattle.records.specs.declared.record.Record.TheVariants.{Decision, Epoch, Horizon, Learned, Checkpoint}
use Rattle.records.specs.Checkpoints.{coordinator_checkpoint, generation_of, is_complete}
use Rattle.records.specs.Coordinators.{CoordinatorState, IsCoordinatorImage, MayTakeDecision, coordinator_state, coordinator_step}
use Rattle.records.specs.Inside.{IsFirst, inside_of}
use Rattle.records.specs.Replays.{BeginsShardImage, IsShardImage, MayEnd, MayTakeRow, shard_state, shard_step}
use Rattle.laws.specs.Nodes.{StandsForSame}
use Rattle.laws.specs.Worlds.{coordinator_node, shard_node}
use Rattle.replay.proofs.States.{image_empty, image_more}

-- the third checkpoint of the only shard of store 7, which was opened twice and has learned one write at place 5
abbrev head : List Record
head = Checkpoint (Begins 3) ∷ Epoch 2 7 1 0 ∷ Horizon 4 ∷ Learned 5 [] ∷ []

abbrev its_row : Record
its_row = Checkpoint (Row 5 (Touch (viewed 97)))

abbrev whole : List Record
whole = head ++ its_row ∷ Checkpoint (Ends 3) ∷ []

begun : BeginsShardImage (shard_node 7 1 0) (Checkpoint (Begins 3) ∷ [])
unfolding inside_of shard_state
begun = image_more (shard_node 7 1 0) [] (Checkpoint (Begins 3)) (image_empty (shard_node 7 1 0)).each (inr (record { unopened = refl; some = omega arith; greatest = omega arith }))

opened : BeginsShardImage (shard_node 7 1 0) (Checkpoint (Begins 3) ∷ Epoch 2 7 1 0 ∷ [])
unfolding inside_of shard_state shard_step
opened = image_more (shard_node 7 1 0) (Checkpoint (Begins 3) ∷ []) (Epoch 2 7 1 0) begun
    (record { after = refl; some = omega arith; greatest = omega arith; same_store = refl; same_shards = refl; same_node = refl })

bounded : BeginsShardImage (shard_node 7 1 0) (Checkpoint (Begins 3) ∷ Epoch 2 7 1 0 ∷ Horizon 4 ∷ [])
unfolding inside_of shard_state shard_step
bounded = image_more (shard_node 7 1 0) (Checkpoint (Begins 3) ∷ Epoch 2 7 1 0 ∷ []) (Horizon 4) opened (record { after = refl; on = omega arith; fits = omega arith })

listed : BeginsShardImage (shard_node 7 1 0) head
unfolding inside_of shard_state shard_step
listed = image_more (shard_node 7 1 0) (Checkpoint (Begins 3) ∷ Epoch 2 7 1 0 ∷ Horizon 4 ∷ []) (Learned 5 []) bounded (record {
  after = refl;
  no_parts = refl;
  may = record { opened = omega arith; on = omega arith; place = omega arith; above = All-nil _; places = tt; prepared = tt };
})

with_row : BeginsShardImage (shard_node 7 1 0) (head ++ its_row ∷ [])
unfolding inside_of shard_state shard_step collected last_version shard_of
with_row = image_more (shard_node 7 1 0) head its_row listed (record { after = refl; some = omega arith; on = omega arith; learned = omega arith; own = refl })

is_whole : IsShardImage (shard_node 7 1 0) whole
unfolding inside_of shard_state shard_step
is_whole = record {
  each = image_more (shard_node 7 1 0) (head ++ its_row ∷ []) (Checkpoint (Ends 3)) with_row (record { after = inl refl; same = refl; within = omega arith });
  whole = refl;
}

stands_for : shard_state whole ≡ record { in_doubt = []; learned = 5; horizon = 4; rows = record { place = 5; change = Touch (viewed 97) } ∷ []; epoch = 2 }
unfolding shard_state shard_step collected
stands_for = refl

-- of which generation they are, and which are complete
its_generation : (generation_of whole ≡ 3) × (generation_of (Epoch 1 7 1 0 ∷ []) ≡ 0)
unfolding generation_of
its_generation = (refl, refl)

complete : (is_complete whole ≡ true) × (is_complete head ≡ false) × (is_complete (head ++ Checkpoint (Ends 4) ∷ []) ≡ false) × (is_complete (Epoch 1 7 1 0 ∷ []) ≡ true) × (is_complete [] ≡ false)
unfolding is_complete
complete = (refl, refl, refl, refl, refl)

-- one that a stop cut off is no shard's
cut_off : IsShardImage (shard_node 7 1 0) (head ++ its_row ∷ []) → ⊥
unfolding inside_of
cut_off image = let open_still : Some _ ≡ None = image.whole in absurd cc

-- nor is one with the end of another
other_end : IsShardImage (shard_node 7 1 0) (head ++ Checkpoint (Ends 4) ∷ []) → ⊥
unfolding inside_of shard_state shard_step
other_end image = let may : MayEnd _ _ 4 = image.each head [] (Checkpoint (Ends 4)) refl in let is = may.same in omega (arith, is)

-- nor one with a version above what is learned
high_row : IsShardImage (shard_node 7 1 0) (head ++ Checkpoint (Row 6 (Touch (viewed 97))) ∷ Checkpoint (Ends 3) ∷ []) → ⊥
unfolding inside_of shard_state shard_step
high_row image = let may : MayTakeRow _ _ _ 6 _ = image.each head (Checkpoint (Ends 3) ∷ []) (Checkpoint (Row 6 (Touch (viewed 97)))) refl in let is = may.learned in omega (arith, is)

-- nor one that begins after an opening
late : IsShardImage (shard_node 7 1 0) (Epoch 1 7 1 0 ∷ whole) → ⊥
unfolding inside_of shard_state shard_step
late image = ⊎_elim
    (λ may. may)
    (λ (may : IsFirst 1 3). let is = may.unopened in omega (arith, is))
    (image.each (Epoch 1 7 1 0 ∷ []) (Epoch 2 7 1 0 ∷ Horizon 4 ∷ Learned 5 [] ∷ its_row ∷ Checkpoint (Ends 3) ∷ []) (Checkpoint (Begins 3)) refl)

-- a coordinator that has decided two writes and raised the horizon to the first: its checkpoint stands for the same, with the first forgotten
abbrev first_write : Entry
first_write = numbered 1 (Touch (viewed 97) ∷ []) []

abbrev second_write : Entry
second_write = numbered 2 (Touch (viewed 98) ∷ []) []

abbrev knows : CoordinatorState
knows = record { base = 0; log = first_write ∷ second_write ∷ []; horizon = 1; epoch = 2 }

checkpointed : StandsForSame knows (coordinator_state (coordinator_checkpoint (coordinator_node 7 1) 3 knows))
unfolding coordinator_checkpoint coordinator_state coordinator_step
checkpointed = record { horizon = refl; epoch = refl; above = omega arith; within = inr (omega arith); log = refl; end = refl }

-- and decisions of it continue from its horizon
gap : IsCoordinatorImage (coordinator_node 7 1) (Checkpoint (Begins 3) ∷ Epoch 2 7 1 255 ∷ Horizon 1 ∷ Decision 3 second_write ∷ Checkpoint (Ends 3) ∷ []) → ⊥
unfolding inside_of coordinator_state coordinator_step
gap image =
    let may : MayTakeDecision _ _ 3 second_write = image.each (Checkpoint (Begins 3) ∷ Epoch 2 7 1 255 ∷ Horizon 1 ∷ []) (Checkpoint (Ends 3) ∷ []) (Decision 3 second_write) refl in
    let is = may.may.next in omega (arith, is)
