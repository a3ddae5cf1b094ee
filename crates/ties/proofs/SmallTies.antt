-- Small ties, computed: a coordinator and a shard beside a list of three writes, of which two are kept; and mistakes, each refused by a clause.
use Rattle.std.proofs.Common.{◌≡◌, inl, inr, ⊎_elim, ◌+◌, ◌≤◌, ◌<◌, ℕ, zero, suc, false, All, List, [], ◌∷◌, ◌++◌, Some, slice_get, rules, refl, sym, ap, subst, arith}
use Rattle.std.proofs.lemmas.List.Elements.{All-cons, All-nil, Contains-append_left, Contains-push}
use Rattle.tuples.specs.declared.change.Change.{Change}
use Rattle.tuples.specs.declared.change.Change.TheVariants.{Delete, Touch}
use Rattle.ties.proofs.Words.{alike_trans, AreListed, AreOutside, AreRowsOf, AreStaged, AreTried, AreWhole, Attempt, coordinator_node, CoordinatorView, Decision, Entry, Epoch, Horizon, IsLonger, IsRunning, IsTiedUp, IsWrite, of_shard, ShardState, slice_get_taken, StandsOrIsPast, State, WriteId}
use Rattle.tuples.specs.Changes.{changed}
use Rattle.tuples.specs.Order.{tuple_eq}
use Rattle.tuples.specs.Parts.{shard_of}
use Rattle.tuples.specs.Texts.{IsTuple}
use Rattle.tuples.specs.Versions.{collected, last_version, versions}
use Rattle.tuples.proofs.Examples.{numbered, three, viewed}
use Rattle.tuples.proofs.Lists.{first_or_later}
use Rattle.records.specs.Coordinators.{coordinator_state, coordinator_step}
use Rattle.versions.proofs.Alike.{alike_same, last_alike}

abbrev first_write : Entry
first_write = numbered 1 (Touch (viewed 97) ∷ []) []

abbrev second_write : Entry
second_write = numbered 2 (Delete (viewed 97) ∷ []) []

abbrev third_write : Entry
third_write = numbered 3 (Touch (viewed 97) ∷ Touch (viewed 98) ∷ []) []

abbrev two : List Entry
two = first_write ∷ second_write ∷ []

abbrev fourth_id : WriteId
fourth_id = record { epoch = 1; number = 4 }

is_tuple_a : IsTuple (viewed 97)
is_tuple_a = record {
  object = record { namespace = record { some = omega arith; few = omega arith; each = refl }; id = record { some = omega arith; few = omega arith; each = refl } };
  relation = record { some = omega arith; few = omega arith; each = refl };
  user = record { some = omega arith; few = omega arith; each = refl };
}

is_tuple_b : IsTuple (viewed 98)
is_tuple_b = record {
  object = record { namespace = record { some = omega arith; few = omega arith; each = refl }; id = record { some = omega arith; few = omega arith; each = refl } };
  relation = record { some = omega arith; few = omega arith; each = refl };
  user = record { some = omega arith; few = omega arith; each = refl };
}

of_a : (c : Change) → changed (c ∷ []) ≡ viewed 97 ∷ [] → IsWrite (c ∷ []) []
of_a c same = record {
  some = omega arith;
  part = record {
    few_changes = omega arith;
    few_conditions = omega arith;
    distinct_changes = (refl, tt);
    distinct_conditions = tt;
    changes_spelled = subst (All IsTuple) (sym same) (All-cons IsTuple (viewed 97) [] is_tuple_a (All-nil IsTuple));
    conditions_spelled = All-nil IsTuple;
  };
}

three_whole : AreWhole three
unfolding tuple_eq
three_whole zero w is = let same : first_write ≡ w = cc in subst (λ (e : Entry). IsWrite e.changes e.conditions) same (of_a (Touch (viewed 97)) refl)
three_whole (suc zero) w is = let same : second_write ≡ w = cc in subst (λ (e : Entry). IsWrite e.changes e.conditions) same (of_a (Delete (viewed 97)) refl)
three_whole (suc (suc zero)) w is =
    let same : third_write ≡ w = cc in
    subst (λ (e : Entry). IsWrite e.changes e.conditions) same (record {
      some = omega arith;
      part = record {
        few_changes = omega arith;
        few_conditions = omega arith;
        distinct_changes = (refl, (refl, tt));
        distinct_conditions = tt;
        changes_spelled = All-cons IsTuple (viewed 97) (viewed 98 ∷ []) is_tuple_a (All-cons IsTuple (viewed 98) [] is_tuple_b (All-nil IsTuple));
        conditions_spelled = All-nil IsTuple;
      };
    })
three_whole (suc (suc (suc j))) w is = absurd cc

-- the number of the write at a place is the place
numbered_so : (j : ℕ) (w : Entry) → slice_get three j ≡ Some w → (w.id.epoch ≡ 1) × (w.id.number ≡ j + 1) × (j < 3)
numbered_so zero w is = let same : first_write ≡ w = cc in (ap (λ (e : Entry). e.id.epoch) (sym same), ap (λ (e : Entry). e.id.number) (sym same), omega arith)
numbered_so (suc zero) w is = let same : second_write ≡ w = cc in (ap (λ (e : Entry). e.id.epoch) (sym same), ap (λ (e : Entry). e.id.number) (sym same), omega arith)
numbered_so (suc (suc zero)) w is = let same : third_write ≡ w = cc in (ap (λ (e : Entry). e.id.epoch) (sym same), ap (λ (e : Entry). e.id.number) (sym same), omega arith)
numbered_so (suc (suc (suc j))) w is = absurd cc

pub three_listed : AreListed 1 three
three_listed = record {
  whole = three_whole;
  new = λ i j v w at_i at_j same.
      let a = numbered_so i v at_i in
      let b = numbered_so j w at_j in
      omega (arith, a.1, b.1, ap (λ (id : WriteId). id.number) same);
  given = λ j w is. let n = numbered_so j w is in omega (arith, n.0);
}

-- Two decisions are kept. A third is staged, after a horizon that is to be raised to the first, and a fourth write is open.
abbrev two_kept : {D : Type 0} → D → D → CoordinatorView D
two_kept a b = record {
  a = a;
  b = b;
  end = 0;
  durable = Epoch 1 7 1 255 ∷ Decision 1 first_write ∷ Decision 2 second_write ∷ [];
  staged = Horizon 1 ∷ Decision 3 third_write ∷ [];
  is_down = false;
  me = coordinator_node 7 1;
  open_ids = fourth_id ∷ [];
  given = 4;
}

abbrev tried_at : ℕ → ℕ → Entry → Attempt
tried_at epoch place w = record { epoch = epoch; place = place; write = w }

-- one attempt of an epoch that is over, and those of this one
abbrev attempts : List Attempt
attempts = tried_at 0 9 first_write ∷ tried_at 1 2 second_write ∷ tried_at 1 3 third_write ∷ []

-- Given a device and what it holds, and that the coordinator runs over it
module _ {D : Type 0} (state : D → State) (honest : D → Type 0) (a b : D) (running : IsRunning state honest (two_kept a b)) where
  two_are_seen : IsTiedUp state honest (two_kept a b) two 0 attempts
  unfolding coordinator_state coordinator_step
  two_are_seen = record {
    running = running;
    kept = record { decisions = refl; base = omega arith; within = omega arith };
    whole = refl;
    horizon = refl;
    staged = (omega arith, omega arith);
    more = third_write ∷ [];
    all = record { decisions = refl; base = omega arith; within = omega arith };
    listed = three_listed;
    outside = record {
      listed = λ j w is.
          let n = numbered_so j w is in (
            inr (n.0, omega (arith, n.1, n.2)),
            λ there. ⊎_elim
                (λ same. omega (arith, n.1, n.2, ap (λ (id : WriteId). id.number) same))
                (λ later. search rules)
                (first_or_later fourth_id w.id [] there),
          );
      still_open = λ id there. ⊎_elim
          (λ same. (ap (λ (x : WriteId). x.epoch) (sym same), omega (arith, ap (λ (x : WriteId). x.number) same)))
          (λ later. absurd (search rules))
          (first_or_later fourth_id id [] there);
    };
    attempts = tried;
  }
    where
      tried : AreTried 1 three attempts
      tried zero x is = let same : tried_at 0 9 first_write ≡ x = cc in subst (StandsOrIsPast 1 three) same (inl (omega arith))
      tried (suc zero) x is = let same : tried_at 1 2 second_write ≡ x = cc in subst (StandsOrIsPast 1 three) same (inr (refl, (1, refl, refl)))
      tried (suc (suc zero)) x is = let same : tried_at 1 3 third_write ≡ x = cc in subst (StandsOrIsPast 1 three) same (inr (refl, (2, refl, refl)))
      tried (suc (suc (suc j))) x is = absurd cc

  -- what is only staged is not seen
  joined_what_is_staged : IsTiedUp state honest (two_kept a b) three 0 attempts → ⊥
  unfolding coordinator_state coordinator_step
  joined_what_is_staged tied = let whole : 3 ≡ 2 = tied.whole in omega (arith, whole)

  -- nor is a horizon that is only staged
  raised_before_the_flush : IsTiedUp state honest (two_kept a b) two 1 attempts → ⊥
  unfolding coordinator_state coordinator_step
  raised_before_the_flush tied = let horizon : 1 ≡ 0 = tied.horizon in omega (arith, horizon)

  -- an attempt of this epoch is the write at its place
  another_write_was_tried : IsTiedUp state honest (two_kept a b) two 0 (tried_at 1 1 second_write ∷ []) → ⊥
  unfolding coordinator_state coordinator_step
  another_write_was_tried tied = ⊎_elim
      (λ past. omega (arith, past))
      (λ here.
      let first : here.1.0 ≡ 0 = let p = here.1.1 in omega (arith, p) in
      let at : slice_get (two ++ tied.more) 0 ≡ Some second_write = subst (λ j. slice_get (two ++ tied.more) j ≡ Some second_write) first here.1.2 in
      let same : first_write ≡ second_write = cc in
      let number : 1 ≡ 2 = ap (λ (w : Entry). w.id.number) same in
      omega (arith, number))
      (tied.attempts 0 (tried_at 1 1 second_write) refl)

  -- and none is of an epoch to come
  tried_in_an_epoch_to_come : IsTiedUp state honest (two_kept a b) two 0 (tried_at 2 3 third_write ∷ []) → ⊥
  unfolding coordinator_state coordinator_step
  tried_in_an_epoch_to_come tied = ⊎_elim (λ past. omega (arith, past)) (λ here. omega (arith, here.0)) (tied.attempts 0 (tried_at 2 3 third_write) refl)

-- an id that is listed is not open
decided_and_open : {D : Type 0} (a b : D) → AreOutside (record (two_kept a b) { open_ids = first_write.id ∷ [] }) two → ⊥
decided_and_open a b out = (out.listed 0 first_write refl).1 (Contains-append_left (first_write.id ∷ []) [] first_write.id (Contains-push [] first_write.id))

-- a number that was not given is not open
open_but_not_given : {D : Type 0} (a b : D) → AreOutside (record (two_kept a b) { given = 3 }) [] → ⊥
open_but_not_given a b out = let o = out.still_open fourth_id (Contains-append_left (fourth_id ∷ []) [] fourth_id (Contains-push [] fourth_id)) in omega (arith, o.1)

-- no write stands twice in a list
listed_twice : AreListed 1 (first_write ∷ first_write ∷ []) → ⊥
listed_twice listed = let same = listed.new 0 1 first_write first_write refl refl refl in omega (arith, same)

-- an opening is never staged
staged_an_opening : AreStaged 0 2 (Epoch 2 7 1 255 ∷ []) → ⊥
staged_an_opening staged = staged

-- a horizon is not lowered, nor raised above what is kept
staged_a_lower_horizon : AreStaged 0 2 (Horizon 2 ∷ Horizon 1 ∷ []) → ⊥
staged_a_lower_horizon staged = omega (arith, staged.1.0)

staged_above_what_is_kept : AreStaged 0 2 (Horizon 3 ∷ []) → ⊥
staged_above_what_is_kept staged = omega (arith, staged.1)

-- what a stop leaves may be more than was seen
more_is_left : IsLonger two 0 attempts (coordinator_state (Epoch 1 7 1 255 ∷ Decision 1 first_write ∷ Decision 2 second_write ∷ Decision 3 third_write ∷ []))
unfolding coordinator_state coordinator_step
more_is_left = record {
  more = third_write ∷ [];
  are = record { decisions = refl; base = omega arith; within = omega arith };
  listed = three_listed;
  raised = omega arith;
  within = omega arith;
  past = λ j x is. past j x is;
}
  where
    past : (j : ℕ) (x : Attempt) → slice_get attempts j ≡ Some x → x.epoch ≤ 1
    past zero x is = let same : tried_at 0 9 first_write ≡ x = cc in omega (arith, ap (λ (t : Attempt). t.epoch) same)
    past (suc zero) x is = let same : tried_at 1 2 second_write ≡ x = cc in omega (arith, ap (λ (t : Attempt). t.epoch) same)
    past (suc (suc zero)) x is = let same : tried_at 1 3 third_write ≡ x = cc in omega (arith, ap (λ (t : Attempt). t.epoch) same)
    past (suc (suc (suc j))) x is = absurd cc

-- and never less
a_seen_write_is_cut : IsLonger two 0 [] (coordinator_state (Epoch 1 7 1 255 ∷ Decision 1 first_write ∷ [])) → ⊥
unfolding coordinator_state coordinator_step
a_seen_write_is_cut longer = let cut : first_write ∷ [] ≡ two ++ longer.more = longer.are.decisions in absurd cc

-- the rows of a store's only shard, which has learned two writes
abbrev pub learned : ℕ → ℕ → ShardState
learned place horizon = record { in_doubt = []; learned = 2; horizon = horizon; rows = record { place = 1; change = Touch (viewed 97) } ∷ record { place = place; change = Delete (viewed 97) } ∷ []; epoch = 1 }

rows_of_two : of_shard 1 0 (versions three 2 0) ≡ record { place = 1; change = Touch (viewed 97) } ∷ record { place = 2; change = Delete (viewed 97) } ∷ []
unfolding versions collected shard_of tuple_eq
rows_of_two = refl

pub two_are_learned : AreRowsOf 1 0 three 0 (learned 2 0)
two_are_learned = record {
  learned = omega arith;
  horizon = omega arith;
  within = omega arith;
  whole = λ j w is. three_whole j w (slice_get_taken 2 three j w is);
  rows = alike_same _ _ (sym rows_of_two);
}

-- a row at another place is not of the list
learned_at_another_place : AreRowsOf 1 0 three 0 (learned 3 0) → ⊥
unfolding last_version tuple_eq
learned_at_another_place rows = let places : 3 ≡ 2 = last_alike (alike_trans rows.rows (alike_same _ _ rows_of_two)) (viewed 97) in omega (arith, places)

-- nothing is learned that was not seen
learned_more_than_was_seen : AreRowsOf 1 0 (first_write ∷ []) 0 (learned 2 0) → ⊥
learned_more_than_was_seen rows = omega (arith, rows.learned)

-- nor is a row collected below a horizon that was not
collected_above_what_was_seen : AreRowsOf 1 0 three 0 (learned 2 1) → ⊥
collected_above_what_was_seen rows = omega (arith, rows.horizon)
