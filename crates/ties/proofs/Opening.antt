-- What stops leave of a coordinator, and what an opening finds.
use Rattle.std.proofs.Common.{◌≡◌, inl, inr, ⊎_elim, ℕ, ◌+◌, ◌-◌, ◌≤◌, true≢false, List, [], ◌∷◌, ◌++◌, length, drop, Some, slice_get, Contains, rules, refl, sym, ◌∙◌, ap, subst, arith}
use Rattle.std.proofs.lemmas.List.{append-nil, drop-append-le, drop_at, length-drop}
use Rattle.std.proofs.lemmas.Option.{same_Some}
use Rattle.ties.proofs.Words.{Anywhere, AreListed, AreOf, AreOutside, AreStaged, Attempt, behind, coordinator_node, coordinator_push, CoordinatorState, CoordinatorView, device_left, Entry, Identity, IsLonger, IsTiedUp, Joins, kept_of, LeavesBoth, memory_of, Record, State, WriteId}
use Rattle.records.specs.Coordinators.{coordinator_state, coordinator_step}
use Rattle.records.proofs.CoordinatorStates.{state_of_more}
use Rattle.journal.specs.Records.{found}
use Rattle.decisions.specs.Coordinators.{IsOpenedCoordinator, WasLeftOrReopened, coordinator_opening}
use Rattle.calls.specs.Opening.{CoordinatorComesUp}
use Rattle.ties.specs.JoiningLaws.{FailedFlushesStayTied, OpeningsStayTied, RefusedOpeningsStayTied, TiedUpIsTied}
use Rattle.ties.proofs.Decided.{staged_whole}
use Rattle.tuples.proofs.Lists.{slice_get_longer}

-- the first of listed writes are listed
listed_front : (epoch : ℕ) (seen more : List Entry) → AreListed epoch (seen ++ more) → AreListed epoch seen
listed_front epoch seen more listed = record {
  whole = λ j w is. listed.whole j w (slice_get_longer seen more j w is);
  new = λ i j v w at_i at_j same. listed.new i j v w (slice_get_longer seen more i v at_i) (slice_get_longer seen more j w at_j) same;
  given = λ j w is. listed.given j w (slice_get_longer seen more j w is);
}

-- Given what a device holds and whether it is honest, and a coordinator that is up and tied
module _ {D : Type 0} (state : D → State) (honest : D → Type 0) (v : CoordinatorView D) (seen : List Entry) (low : ℕ) (tried : List Attempt) (tied : IsTiedUp state honest v seen low tried) where
  parts : ((kept_of v).horizon ≤ (memory_of v).horizon) × ((memory_of v).horizon ≤ length seen) × ((memory_of v).epoch ≡ (kept_of v).epoch)
  parts = subst (λ (s : CoordinatorState). ((kept_of v).horizon ≤ s.horizon) × (s.horizon ≤ length seen) × (s.epoch ≡ (kept_of v).epoch)) (sym (state_of_more v.durable v.staged))
      (staged_whole (kept_of v) (length seen) v.staged (subst (λ n. AreStaged n (length seen) v.staged) tied.horizon tied.staged))

  tried_before : (epoch : ℕ) → (memory_of v).epoch ≤ epoch → (j : ℕ) (x : Attempt) → slice_get tried j ≡ Some x → x.epoch ≤ epoch
  tried_before epoch le j x is = ⊎_elim (λ past. omega (arith, past, le)) (λ here. omega (arith, here.0, le)) (tied.attempts j x is)

  -- what is durable is the list
  pub durable_longer : IsLonger seen low tried (kept_of v)
  durable_longer = record {
    more = [];
    are = subst (λ (l : List Entry). AreOf l (kept_of v)) (sym (append-nil seen)) tied.kept;
    listed = subst (AreListed (kept_of v).epoch) (sym (append-nil seen)) (subst (λ n. AreListed n seen) parts.2 (listed_front (memory_of v).epoch seen tied.more tied.listed));
    raised = omega (arith, tied.horizon);
    within = tied.kept.within;
    past = tried_before (kept_of v).epoch (omega (arith, parts.2));
  }

  -- and with what is staged it is longer
  pub memory_longer : IsLonger seen low tried (memory_of v)
  memory_longer = record {
    more = tied.more;
    are = tied.all;
    listed = tied.listed;
    raised = let p = parts.0 in omega (arith, p, tied.horizon);
    within = parts.1;
    past = tried_before (memory_of v).epoch (omega arith);
  }

  pub anywhere : Anywhere state honest v.a v.b seen low tried
  anywhere = record {
    honest_a = tied.running.honest_a;
    honest_b = tied.running.honest_b;
    each = λ rs finds.
        let same : v.durable ≡ rs = same_Some v.durable rs (sym (tied.running.rest finds.0 finds.1 finds.2 finds.3) ∙ finds.4) in
        subst (λ (l : List Record). IsLonger seen low tried (coordinator_state l)) same durable_longer;
  }

pub tied_up_is_tied : {D : Type 0} (state : D → State) (honest : D → Type 0) → TiedUpIsTied state honest
tied_up_is_tied state honest store shards v seen low tried tied me = record { up = λ up. tied; anywhere = anywhere state honest v seen low tried tied; me = me }

-- one more opening changes only the epoch
reopened : (me : Identity) (seen : List Entry) (low : ℕ) (tried : List Attempt) (rs : List Record) → IsLonger seen low tried (coordinator_state rs) → IsLonger seen low tried (coordinator_state (rs ++ coordinator_opening me rs ∷ []))
unfolding coordinator_step
reopened me seen low tried rs longer = subst (IsLonger seen low tried) (sym (coordinator_push rs (coordinator_opening me rs))) (record {
  more = longer.more;
  are = record { decisions = longer.are.decisions; base = longer.are.base; within = longer.are.within };
  listed = record { whole = longer.listed.whole; new = longer.listed.new; given = λ j w is. let g = longer.listed.given j w is in omega (arith, g) };
  raised = longer.raised;
  within = longer.within;
  past = λ j x is. let p = longer.past j x is in omega (arith, p);
})

-- Given also how often a stop may have come at a device, and what a stop since then may have left, now among it
module _ {D : Type 0} (state : D → State) (honest : D → Type 0) (moment : D → ℕ) (left_since : D → ℕ → List ℕ → Type 0)
    (counts_now : (d : D) (t : ℕ) (c : List ℕ) → honest d → t ≤ moment d → device_left (state d) c → left_since d t c) (store shards : ℕ) where
  pub failed_flushes_stay_tied : FailedFlushesStayTied state honest moment left_since store shards
  failed_flushes_stay_tied old new seen low tried tied me keeps honest_a honest_b down leaves = record {
    up = λ up. absurd (true≢false (sym down ∙ up));
    anywhere = record {
      honest_a = honest_a;
      honest_b = honest_b;
      each = λ rs finds. ⊎_elim
          (λ before.
          let same : old.durable ≡ rs = same_Some old.durable rs (sym before ∙ finds.4) in
          subst (λ (l : List Record). IsLonger seen low tried (coordinator_state l)) same (durable_longer state honest old seen low tried tied))
          (λ after.
          let same : old.durable ++ old.staged ≡ rs = same_Some (old.durable ++ old.staged) rs (sym after ∙ finds.4) in
          subst (λ (l : List Record). IsLonger seen low tried (coordinator_state l)) same (memory_longer state honest old seen low tried tied))
          (leaves.each finds.0 finds.1 (counts_now new.a (moment old.a) finds.0 honest_a leaves.later_a finds.2) (counts_now new.b (moment old.b) finds.1 honest_b leaves.later_b finds.3));
    };
    me = keeps.me ∙ me;
  }

  -- Given two devices that read what a stop may leave of them
  module _ (a b : D) (seen : List Entry) (low : ℕ) (tried : List Attempt) (was : Anywhere state honest a b seen low tried) (reads_a : device_left (state a) (state a).seen) (reads_b : device_left (state b) (state b).seen) where
    found_longer : (rs : List Record) → found (state a).seen (state b).seen ≡ Some rs → IsLonger seen low tried (coordinator_state rs)
    found_longer rs is = was.each rs ((state a).seen, (state b).seen, reads_a, reads_b, is)

    pub left_longer : (x y : List ℕ) (rs : List Record) → found x y ≡ Some rs → WasLeftOrReopened (coordinator_node store shards) (state a) (state b) x y → IsLonger seen low tried (coordinator_state rs)
    left_longer x y rs is (inl before) = was.each rs (before.0, before.1, before.2, before.3, sym before.4 ∙ is)
    left_longer x y rs is (inr more) =
        subst (λ (l : List Record). IsLonger seen low tried (coordinator_state l)) (same_Some (more.0 ++ coordinator_opening (coordinator_node store shards) more.0 ∷ []) rs (sym more.3 ∙ is))
        (reopened (coordinator_node store shards) seen low tried more.0 (found_longer more.0 more.1))

    pub left_anywhere : (x y : D) → honest x → honest y → LeavesBoth moment left_since a b x y (WasLeftOrReopened (coordinator_node store shards) (state a) (state b)) → Anywhere state honest x y seen low tried
    left_anywhere x y honest_x honest_y leaves = record {
      honest_a = honest_x;
      honest_b = honest_y;
      each = λ rs finds. left_longer finds.0 finds.1 rs finds.4
          (leaves.each finds.0 finds.1 (counts_now x (moment a) finds.0 honest_x leaves.later_a finds.2) (counts_now y (moment b) finds.1 honest_y leaves.later_b finds.3));
    }

    -- Given that the opening answers Ok
    module _ (v : CoordinatorView D) (comes : CoordinatorComesUp state honest moment left_since a b (coordinator_node store shards) v) where
      opened : IsOpenedCoordinator state honest a b (coordinator_node store shards) v
      opened = comes.ok was.honest_a was.honest_b

      longer : IsLonger seen low tried (coordinator_state opened.rs)
      longer = found_longer opened.rs opened.was

      abbrev s : CoordinatorState
      s = coordinator_state opened.rs

      kept_is : kept_of v ≡ record s { epoch = s.epoch + 1 }
      unfolding coordinator_step
      kept_is = ap coordinator_state opened.durable ∙ coordinator_push opened.rs (coordinator_opening (coordinator_node store shards) opened.rs)

      same_memory : memory_of v ≡ kept_of v
      same_memory = ap coordinator_state (ap (λ (l : List Record). v.durable ++ l) comes.fresh.0 ∙ append-nil v.durable)

      memory_is_so : memory_of v ≡ record s { epoch = s.epoch + 1 }
      memory_is_so = same_memory ∙ kept_is

      low_base : s.base ≤ length seen
      low_base = let b = longer.are.base in let w = longer.within in omega (arith, b, w)

      added_is : behind seen (kept_of v) ≡ longer.more
      added_is =
          ap (λ (k : CoordinatorState). behind seen k) kept_is
          ∙ ap (drop (length seen - s.base)) (longer.are.decisions ∙ drop-append-le s.base seen longer.more low_base)
          ∙ drop_at (drop s.base seen) longer.more (length seen - s.base) (let d = length-drop s.base seen in omega (arith, d))

      list_is : seen ++ longer.more ≡ seen ++ behind seen (kept_of v)
      list_is = ap (λ (l : List Entry). seen ++ l) (sym added_is)

      joined : AreOf (seen ++ behind seen (kept_of v)) (kept_of v)
      joined = subst (λ (l : List Entry). AreOf l (kept_of v)) list_is
          (subst (AreOf (seen ++ longer.more)) (sym kept_is) (record { decisions = longer.are.decisions; base = longer.are.base; within = longer.are.within }))

      nil_behind : (l : List Entry) → l ≡ l ++ []
      nil_behind l = sym (append-nil l)

      listed_now : AreListed (memory_of v).epoch (seen ++ behind seen (kept_of v))
      listed_now = subst (AreListed (memory_of v).epoch) list_is (subst (λ (k : CoordinatorState). AreListed k.epoch (seen ++ longer.more)) (sym memory_is_so)
          (record { whole = longer.listed.whole; new = longer.listed.new; given = λ j w is. let g = longer.listed.given j w is in omega (arith, g) }))

      epoch_is : (memory_of v).epoch ≡ s.epoch + 1
      epoch_is = ap (λ (k : CoordinatorState). k.epoch) memory_is_so

      none_open : (id : WriteId) → Contains v.open_ids id → ⊥
      none_open id there = let nothing : Contains [] id = subst (λ (ids : List WriteId). Contains ids id) comes.fresh.3 there in search rules

      outside : AreOutside v (seen ++ behind seen (kept_of v))
      outside = record {
        listed = λ j w is. (
          inl (let g = longer.listed.given j w (subst (λ (l : List Entry). slice_get l j ≡ Some w) (sym list_is) is) in omega (arith, g, epoch_is)),
          none_open w.id,
        );
        still_open = λ id there. absurd (none_open id there);
      }

      pub joins : Joins state honest v seen low tried
      joins = record {
        tied = record {
          running = opened.running;
          kept = joined;
          whole =
              let d : (kept_of v).log ≡ drop (kept_of v).base (seen ++ behind seen (kept_of v)) = joined.decisions in
              let b = joined.base in
              let w = joined.within in
              omega (arith, ap length d, length-drop (kept_of v).base (seen ++ behind seen (kept_of v)), b, w);
          horizon = refl;
          staged = subst (λ (l : List Record). AreStaged (kept_of v).horizon (length (seen ++ behind seen (kept_of v))) l) (sym comes.fresh.0) joined.within;
          more = [];
          all = subst (λ (l : List Entry). AreOf l (memory_of v)) (nil_behind (seen ++ behind seen (kept_of v))) (subst (AreOf (seen ++ behind seen (kept_of v))) (sym same_memory) joined);
          listed = subst (AreListed (memory_of v).epoch) (nil_behind (seen ++ behind seen (kept_of v))) listed_now;
          outside = subst (AreOutside v) (nil_behind (seen ++ behind seen (kept_of v))) outside;
          attempts = λ j x is. inl (let p = longer.past j x is in omega (arith, p, epoch_is));
        };
        raised = let r = longer.raised in omega (arith, r, ap (λ (k : CoordinatorState). k.horizon) kept_is);
      }

  pub openings_stay_tied : OpeningsStayTied state honest moment left_since store shards
  openings_stay_tied a b v seen low tried was reads_a reads_b comes = joins a b seen low tried was reads_a reads_b v comes

  pub refused_openings_stay_tied : RefusedOpeningsStayTied state honest moment left_since store shards
  refused_openings_stay_tied a b x y e seen low tried was reads_a reads_b stays =
      left_anywhere a b seen low tried was reads_a reads_b x y (stays.still_honest.0.0 was.honest_a) (stays.still_honest.1.0 was.honest_b) (stays.any_moment was.honest_a was.honest_b)
