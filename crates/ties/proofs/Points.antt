-- A checkpoint leaves a coordinator tied to the whole list, at whatever moment it stops.
use Rattle.std.proofs.Common.{◌≡◌, inl, inr, ℕ, ◌+◌, ◌-◌, ◌≤◌, true≢false, List, [], ◌++◌, length, drop, Contains, refl, sym, ◌∙◌, ap, subst, arith}
use Rattle.std.proofs.lemmas.List.{append-nil, drop-append-le, drop-drop, drop_at, length-drop}
use Rattle.std.proofs.lemmas.Option.{same_Some}
use Rattle.ties.proofs.Words.{AreListed, AreOf, AreOutside, AreStaged, AreTried, Attempt, behind, CoordinatorState, CoordinatorView, device_left, Entry, generation_of, IsLonger, IsRunning, IsTiedUp, Joins, kept_of, memory_of, Record, State, WriteId}
use Rattle.records.specs.Coordinators.{coordinator_state}
use Rattle.recovery.specs.Checkpoints.{above_horizon}
use Rattle.recovery.proofs.Checkpoints.{checkpoint_state}
use Rattle.decisions.specs.Checkpoints.{next_checkpoint}
use Rattle.decisions.specs.Coordinators.{KeepsOpen}
use Rattle.ties.specs.JoiningLaws.{CheckpointsStayTied, ChecksPoint, FailedCheckpointsStayTied}
use Rattle.ties.proofs.Opening.{durable_longer, memory_longer}
use Rattle.ties.proofs.Outside.{still_outside}

-- the decisions above the horizon are those of the list after it
of_above : (log : List Entry) (s : CoordinatorState) → AreOf log s → AreOf log (above_horizon s)
of_above log s are = record {
  decisions = ap (drop (s.horizon - s.base)) are.decisions ∙ drop-drop (s.horizon - s.base) s.base log ∙ ap (λ (n : ℕ). drop n log) (let b = are.base in omega (arith, b));
  base = omega arith;
  within = are.within;
}

pub longer_above : (seen : List Entry) (low : ℕ) (tried : List Attempt) (s : CoordinatorState) → IsLonger seen low tried s → IsLonger seen low tried (above_horizon s)
longer_above seen low tried s longer = record {
  more = longer.more;
  are = of_above (seen ++ longer.more) s longer.are;
  listed = longer.listed;
  raised = longer.raised;
  within = longer.within;
  past = longer.past;
}

-- what the checkpoint of a coordinator stands for
pub point_is : {D : Type 0} (v : CoordinatorView D) → coordinator_state (next_checkpoint v) ≡ above_horizon (memory_of v)
point_is v = checkpoint_state v.me (generation_of v.durable + 1) (memory_of v)

module _ {D : Type 0} (state : D → State) (honest : D → Type 0) (old new : CoordinatorView D) (seen : List Entry) (low : ℕ) (tried : List Attempt)
    (tied : IsTiedUp state honest old seen low tried) where
  -- what a stop leaves of the checkpoint is the list, with what was staged
  point_longer : IsLonger seen low tried (above_horizon (memory_of old))
  point_longer = longer_above seen low tried (memory_of old) (memory_longer state honest old seen low tried tied)

  -- Given that the checkpoint is durable
  module _ (points : ChecksPoint old new) (keeps : KeepsOpen old new) (run : IsRunning state honest new) where
    abbrev s : CoordinatorState
    s = above_horizon (memory_of old)

    kept_is : kept_of new ≡ s
    kept_is = ap coordinator_state points.durable ∙ point_is old

    same_memory : memory_of new ≡ kept_of new
    same_memory = ap coordinator_state (ap (λ (l : List Record). new.durable ++ l) points.staged ∙ append-nil new.durable)

    epoch_is : (memory_of new).epoch ≡ (memory_of old).epoch
    epoch_is = ap (λ (k : CoordinatorState). k.epoch) (same_memory ∙ kept_is)

    added_is : behind seen (kept_of new) ≡ tied.more
    added_is =
        let w = point_longer.within in
        ap (λ (k : CoordinatorState). behind seen k) kept_is
        ∙ ap (drop (length seen - s.base)) ((of_above (seen ++ tied.more) (memory_of old) tied.all).decisions ∙ drop-append-le s.base seen tied.more w)
        ∙ drop_at (drop s.base seen) tied.more (length seen - s.base) (let d = length-drop s.base seen in omega (arith, d))

    list_is : seen ++ tied.more ≡ (seen ++ behind seen (kept_of new)) ++ []
    list_is = ap (λ (l : List Entry). seen ++ l) (sym added_is) ∙ sym (append-nil (seen ++ behind seen (kept_of new)))

    joined : AreOf (seen ++ behind seen (kept_of new)) (kept_of new)
    joined = subst (λ (l : List Entry). AreOf l (kept_of new)) (ap (λ (l : List Entry). seen ++ l) (sym added_is))
        (subst (AreOf (seen ++ tied.more)) (sym kept_is) (of_above (seen ++ tied.more) (memory_of old) tied.all))

    pub joins : Joins state honest new seen low tried
    joins = record {
      tied = record {
        running = run;
        kept = joined;
        whole =
            let d : (kept_of new).log ≡ drop (kept_of new).base (seen ++ behind seen (kept_of new)) = joined.decisions in
            let b = joined.base in
            let w = joined.within in
            omega (arith, ap length d, length-drop (kept_of new).base (seen ++ behind seen (kept_of new)), b, w);
        horizon = refl;
        staged = subst (λ (l : List Record). AreStaged (kept_of new).horizon (length (seen ++ behind seen (kept_of new))) l) (sym points.staged) joined.within;
        more = [];
        all = subst (λ (l : List Entry). AreOf l (memory_of new)) (sym (append-nil (seen ++ behind seen (kept_of new)))) (subst (AreOf (seen ++ behind seen (kept_of new))) (sym same_memory) joined);
        listed = subst (λ n. AreListed n ((seen ++ behind seen (kept_of new)) ++ [])) (sym epoch_is) (subst (AreListed (memory_of old).epoch) list_is tied.listed);
        outside = subst (AreOutside new) list_is (still_outside old new (seen ++ tied.more) epoch_is keeps.given (λ id there. subst (λ (ids : List WriteId). Contains ids id) keeps.open_ids there) tied.outside);
        attempts = subst (λ n. AreTried n ((seen ++ behind seen (kept_of new)) ++ []) tried) (sym epoch_is) (subst (λ (l : List Entry). AreTried (memory_of old).epoch l tried) list_is tied.attempts);
      };
      raised = let r = point_longer.raised in omega (arith, r, ap (λ (k : CoordinatorState). k.horizon) kept_is);
    }

pub checkpoints_stay_tied : {D : Type 0} (state : D → State) (honest : D → Type 0) → CheckpointsStayTied state honest
checkpoints_stay_tied state honest old new seen low tried tied points keeps run = joins state honest old new seen low tried tied points keeps run

-- Given also how often a stop may have come at a device, and what a stop since then may have left, now among it
pub failed_checkpoints_stay_tied : {D : Type 0} (state : D → State) (honest : D → Type 0) (moment : D → ℕ) (left_since : D → ℕ → List ℕ → Type 0)
    (counts_now : (d : D) (t : ℕ) (c : List ℕ) → honest d → t ≤ moment d → device_left (state d) c → left_since d t c) (store shards : ℕ) → FailedCheckpointsStayTied state honest moment left_since store shards
failed_checkpoints_stay_tied state honest moment left_since counts_now store shards old new seen low tried tied me keeps honest_a honest_b down leaves = record {
  up = λ up. absurd (true≢false (sym down ∙ up));
  anywhere = record {
    honest_a = honest_a;
    honest_b = honest_b;
    each = λ rs finds. elim (leaves.each finds.0 finds.1 (counts_now new.a (moment old.a) finds.0 honest_a leaves.later_a finds.2) (counts_now new.b (moment old.b) finds.1 honest_b leaves.later_b finds.3)) [
      | inl (inl before) ↦ of_records old.durable rs (same_Some old.durable rs (sym before ∙ finds.4)) (durable_longer state honest old seen low tried tied)
      | inl (inr after) ↦ of_records (old.durable ++ old.staged) rs (same_Some (old.durable ++ old.staged) rs (sym after ∙ finds.4)) (memory_longer state honest old seen low tried tied)
      | inr point ↦ of_records (next_checkpoint old) rs (same_Some (next_checkpoint old) rs (sym point ∙ finds.4))
          (subst (IsLonger seen low tried) (sym (point_is old)) (point_longer state honest old new seen low tried tied))
    ];
  };
  me = keeps.me ∙ me;
}
  where
    of_records : (rs cs : List Record) → rs ≡ cs → IsLonger seen low tried (coordinator_state rs) → IsLonger seen low tried (coordinator_state cs)
    of_records rs cs same longer = subst (λ (l : List Record). IsLonger seen low tried (coordinator_state l)) same longer
