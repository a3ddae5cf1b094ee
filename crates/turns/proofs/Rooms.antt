-- Banks that have no room for one more batch.
use Rattle.std.proofs.Common.{inl, inr, ⊎_elim, ◌≡◌, ◌⊎◌, ◌≤◌, ◌<◌, ◌+◌, ◌^◌, ℕ, List, length, subst, ap, arith}
use Rattle.turns.proofs.Words.{HasFailed, Record, State, left}
use Rattle.journal.specs.Records.{LacksRoom}
use Rattle.turns.specs.Promises.{IsNearlyFull}
use Rattle.turns.specs.RoomLaws.{FailedFlushesHaveCause, FailedPointsHaveCause, OpeningsWithoutRoomHaveCause}

module _ {D : Type 0} (state : D → State) (honest : D → Type 0) (bank : D) (end : ℕ) (staged : List Record) (lacks : LacksRoom state honest bank end staged) (hon : honest bank) where
  pub past_the_most : 2 ^ 40 < length (state bank).seen + 1048581
  past_the_most = omega (arith, lacks.past, lacks.sized, lacks.within hon)

  pub has_no_room : IsNearlyFull (state bank)
  has_no_room = omega (arith, past_the_most)

-- a device that was revived reads one of the contents that a stop may have left
pub revived_full : (was now later : State) → left was now.seen → (later.seen ≡ now.seen) ⊎ (length later.seen ≤ 1) → 2 ^ 40 < length later.seen + 1048581 → IsNearlyFull was
revived_full was now later found (inl same) past = omega (arith, found.no_longer, ap length same, past)
revived_full was now later found (inr short) past = absurd (omega (arith, short, past))

module _ {D : Type 0} (state : D → State) (honest : D → Type 0) (moment : D → ℕ) (left_since : D → ℕ → List ℕ → Type 0) (store shards : ℕ) where
  pub failed_flushes_have_cause : FailedFlushesHaveCause state honest moment left_since store shards
  failed_flushes_have_cause old new n was is old_a old_b new_a new_b hon hon_b cause = ⊎_elim
      (λ of_a. inl (subst (λ (d : D). HasFailed (state (old n).0) (state d)) new_a (subst (λ (d : D). HasFailed (state d) (state is.a)) old_a of_a)))
      (λ rest. inr (⊎_elim
      (λ of_b. inl (subst (λ (d : D). HasFailed (state (old n).1) (state d)) new_b (subst (λ (d : D). HasFailed (state d) (state is.b)) old_b of_b)))
      (λ lacks. inr (⊎_elim
      (λ in_a. inl (subst (λ (d : D). IsNearlyFull (state d)) old_a (has_no_room state honest was.a was.end was.staged in_a hon)))
      (λ in_b. inr (inl (subst (λ (d : D). IsNearlyFull (state d)) old_b (has_no_room state honest was.b was.end was.staged in_b hon_b))))
      lacks))
      rest))
      cause

  pub failed_points_have_cause : FailedPointsHaveCause state honest moment left_since store shards
  failed_points_have_cause old new n was is old_a old_b new_a new_b hon_a hon_b hon_new_a hon_new_b cause = ⊎_elim
      (λ of_a. inl (subst (λ (d : D). HasFailed (state (old n).0) (state d)) new_a (subst (λ (d : D). HasFailed (state d) (state is.a)) old_a of_a)))
      (λ rest. inr (⊎_elim
      (λ of_b. inl (subst (λ (d : D). HasFailed (state (old n).1) (state d)) new_b (subst (λ (d : D). HasFailed (state d) (state is.b)) old_b of_b)))
      (λ room. inr (⊎_elim
      (λ lacks. ⊎_elim
      (λ in_a. inl (subst (λ (d : D). IsNearlyFull (state d)) old_a (has_no_room state honest was.a was.end was.staged in_a hon_a)))
      (λ in_b. inr (inl (subst (λ (d : D). IsNearlyFull (state d)) old_b (has_no_room state honest was.b was.end was.staged in_b hon_b))))
      lacks)
      (λ ahead. inr (inr (⊎_elim
      (λ of_a. inl (subst (λ (d : D). IsNearlyFull (state d)) new_a (has_no_room state honest is.a of_a.at of_a.piece of_a.lacks hon_new_a)))
      (λ of_b. inr (subst (λ (d : D). IsNearlyFull (state d)) new_b (has_no_room state honest is.b of_b.at of_b.piece of_b.lacks hon_new_b)))
      ahead)))
      room))
      rest))
      cause

  pub openings_without_room_have_cause : OpeningsWithoutRoomHaveCause state honest moment left_since store shards
  openings_without_room_have_cause old new n a b rs staged journal revived hon hon_b opened lacks = inr (inr (⊎_elim
      (λ in_a. inl (revived_full (state (old n).0) (state a) (state journal.a) revived.first.found opened.reads (past_the_most state honest journal.a journal.end staged in_a hon)))
      (λ in_b. inr (inl (revived_full (state (old n).1) (state b) (state journal.b) revived.second.found opened.reads_b (past_the_most state honest journal.b journal.end staged in_b hon_b))))
      lacks))
