-- Small records, computed: what a shard's and a coordinator's mean, and some that mean nothing.
use Rattle.std.proofs.Common.{◌≡◌, ◌≤◌, inl, inr, ⊎_elim, ℕ, zero, suc, true≢false, List, [], ◌∷◌, ◌++◌, Some, None, refl, sym, ◌∙◌, subst, arith, slice_get}
use Rattle.std.proofs.lemmas.List.Elements.{All-head, All-nil}
use Rattle.laws.proofs.Words.{Absent, Decision, Entry, Epoch, IsCoordinatorImage, Record, ShardMeans, ShardState, Touch, alike_refl, alike_same, alike_trans, coordinator_node, find_in_doubt, last_alike, of_shard}
use Rattle.tuples.specs.Log.{is_at}
use Rattle.tuples.specs.Order.{tuple_eq}
use Rattle.tuples.specs.Parts.{expected, part, shard_of, takes_part}
use Rattle.tuples.specs.Versions.{collected, versions}
use Rattle.tuples.proofs.Examples.{numbered, viewed}
use Rattle.laws.specs.Nodes.{StandsForSame}
use Rattle.records.specs.Coordinators.{CoordinatorState, HoldsKnown, MayDecide, coordinator_state, coordinator_step}
use Rattle.laws.proofs.CoordinatorStates.{coordinator_empty, coordinator_image_push, coordinator_last}
use Rattle.tuples.specs.Versions.{last_version}

-- one write, which a store's only shard has in doubt, or has learned
abbrev first_write : Entry
first_write = numbered 1 (Touch (viewed 97) ∷ []) []

abbrev one_write : List Entry
one_write = first_write ∷ []

abbrev in_doubt_of_it : List Entry → ShardState
in_doubt_of_it ws = record { in_doubt = ws; learned = 0; horizon = 0; rows = []; epoch = 1 }

abbrev learned_at : ℕ → ShardState
learned_at place = record { in_doubt = []; learned = 1; horizon = 0; rows = record { place = place; change = Touch (viewed 97) } ∷ []; epoch = 1 }

its_part : expected 1 0 first_write ≡ Some first_write
unfolding expected takes_part part shard_of
its_part = refl

its_rows : of_shard 1 0 (versions one_write 1 0) ≡ record { place = 1; change = Touch (viewed 97) } ∷ []
unfolding versions collected shard_of tuple_eq
its_rows = refl

prepared_means_it : ShardMeans 1 0 one_write 0 0 (in_doubt_of_it one_write)
unfolding versions collected
prepared_means_it = record {
  learned = omega arith;
  horizon = omega arith;
  rows = alike_refl [];
  settled = omega arith;
  in_doubt = record { above = λ j w is le. at j w is; below = λ j w is lt. absurd (omega (arith, lt)) };
}
  where
    at : (j : ℕ) (w : Entry) → slice_get one_write j ≡ Some w → find_in_doubt w.id one_write ≡ expected 1 0 w
    at zero w is = let same : first_write ≡ w = cc in subst (λ (v : Entry). find_in_doubt v.id one_write ≡ expected 1 0 v) same (sym its_part)
    at (suc j) w is = absurd cc

learned_means_it : ShardMeans 1 0 one_write 0 0 (learned_at 1)
learned_means_it = record {
  learned = omega arith;
  horizon = omega arith;
  rows = alike_same _ _ (sym its_rows);
  settled = omega arith;
  in_doubt = record { above = λ j w is le. past j w is le; below = λ j w is lt. refl };
}
  where
    past : (j : ℕ) (w : Entry) → slice_get one_write j ≡ Some w → 1 ≤ j → None ≡ expected 1 0 w
    past zero w is le = absurd (omega (arith, le))
    past (suc j) w is le = absurd cc

-- a row at another place means nothing
wrong_row : ShardMeans 1 0 one_write 0 0 (learned_at 2) → ⊥
unfolding last_version tuple_eq
wrong_row m = let places : 2 ≡ 1 = last_alike (alike_trans m.rows (alike_same _ _ its_rows)) (viewed 97) in omega (arith, places)

-- a write above the learned place without its part means nothing
part_missing : ShardMeans 1 0 one_write 0 0 (in_doubt_of_it []) → ⊥
part_missing m = let gone : None ≡ Some first_write = m.in_doubt.above 0 first_write refl (omega arith) ∙ its_part in absurd cc

-- a horizon of the coordinator that the shard has not learned up to means nothing
not_settled : ShardMeans 1 0 one_write 1 0 (in_doubt_of_it one_write) → ⊥
not_settled m = omega (arith, m.settled)

abbrev opened : List Record
opened = Epoch 1 7 1 255 ∷ []

-- a decision at the next place is a coordinator's record, one that leaves a gap is not
decided_next : IsCoordinatorImage (coordinator_node 7 1) (opened ++ Decision 1 first_write ∷ [])
unfolding coordinator_state coordinator_step
decided_next = coordinator_image_push (coordinator_node 7 1) opened (Decision 1 first_write)
    (coordinator_image_push (coordinator_node 7 1) [] (Epoch 1 7 1 255) (coordinator_empty (coordinator_node 7 1)) (record { next = refl; greatest = omega arith; same_store = refl; same_shards = refl; same_node = refl; coordinator = refl }))
    (record {
      opened = omega arith;
      next = refl;
      place_fits = omega arith;
      new = λ j w is. absurd cc;
      conditions = All-nil _;
      some_epoch = omega arith;
      epoch = omega arith;
      some_number = omega arith;
      number = omega arith;
      places = All-nil _;
    })

gap : IsCoordinatorImage (coordinator_node 7 1) (opened ++ Decision 2 first_write ∷ []) → ⊥
unfolding coordinator_state coordinator_step
gap image = let may : MayDecide _ 2 first_write = coordinator_last (coordinator_node 7 1) opened (Decision 2 first_write) image in omega (arith, may.next)

-- no id is decided twice
twice : IsCoordinatorImage (coordinator_node 7 1) (opened ++ Decision 1 first_write ∷ Decision 2 first_write ∷ []) → ⊥
unfolding coordinator_state coordinator_step
twice image = let may : MayDecide _ 2 first_write = coordinator_last (coordinator_node 7 1) (opened ++ Decision 1 first_write ∷ []) (Decision 2 first_write) image in may.new 0 first_write refl refl

-- nothing whose condition is broken is decided
abbrev if_absent : Entry
if_absent = numbered 2 (Touch (viewed 98) ∷ []) (record { tuple = viewed 97; want = Absent } ∷ [])

broken : IsCoordinatorImage (coordinator_node 7 1) (opened ++ Decision 1 first_write ∷ Decision 2 if_absent ∷ []) → ⊥
unfolding coordinator_state coordinator_step is_at tuple_eq
broken image =
    let before = opened ++ Decision 1 first_write ∷ [] in
    let may : MayDecide _ 2 if_absent = coordinator_last (coordinator_node 7 1) before (Decision 2 if_absent) image in
    let holds : HoldsKnown (coordinator_state before) (record { tuple = viewed 97; want = Absent }) = All-head (HoldsKnown (coordinator_state before)) (record { tuple = viewed 97; want = Absent }) [] may.conditions in
    true≢false (sym (holds (inl refl)))

-- a coordinator that has forgotten the decision at its horizon stands for the same; one that has forgotten a decision above it, or has lost the last, does
-- not
abbrev knowing : ℕ → ℕ → List Entry → CoordinatorState
knowing base horizon log = record { base = base; log = log; horizon = horizon; epoch = 1 }

forgets_at_its_horizon : StandsForSame (knowing 0 1 one_write) (knowing 1 1 [])
forgets_at_its_horizon = record { horizon = refl; epoch = refl; above = omega arith; within = inr (omega arith); log = refl; end = refl }

forgets_above_it : StandsForSame (knowing 0 0 one_write) (knowing 1 0 []) → ⊥
forgets_above_it same = ⊎_elim (λ le. omega (arith, le)) (λ le. omega (arith, le)) same.within

loses_the_last : StandsForSame (knowing 0 1 one_write) (knowing 0 1 []) → ⊥
loses_the_last same = let e : 0 ≡ 1 = same.end in omega (arith, e)
