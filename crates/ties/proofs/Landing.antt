-- What is durable joins the list.
use Rattle.std.proofs.Common.{◌≡◌, ℕ, ◌-◌, ◌≤◌, List, ◌++◌, length, take, drop, Contains, refl, sym, ◌∙◌, ap, subst, arith, append_assoc, length-append}
use Rattle.std.proofs.lemmas.List.{drop-append-le, drop_all, drop_at, length-drop, take_all, take-append-drop, append_cancel_left}
use Rattle.ties.proofs.Words.{AreListed, AreOf, AreOutside, AreStaged, AreTried, Attempt, behind, coordinator_from, CoordinatorState, CoordinatorView, Entry, IsRunning, IsTiedUp, kept_of, memory_of, Record, State, WriteId}
use Rattle.records.specs.Coordinators.{coordinator_state}
use Rattle.records.proofs.CoordinatorStates.{state_of_more}
use Rattle.ties.specs.JoiningLaws.{FlushesStayTied, LandingsStayTied, LandsFirst}
use Rattle.ties.proofs.Decided.{base_behind, base_staged, decided-append, staged_higher, staged_in_two, staged_within}
use Rattle.ties.proofs.Outside.{still_outside}
use Rattle.coordinator.specs.Staged.{decided}
use Rattle.coordinator.proofs.Staged.{decided_behind}

module _ {D E : Type 0} (state : D → State) (honest : D → Type 0) (state_of : E → State) (honest_of : E → Type 0) (old : CoordinatorView E) (new : CoordinatorView D) (count : ℕ) (seen : List Entry) (low : ℕ) (tried : List Attempt)
    (tied : IsTiedUp state_of honest_of old seen low tried) (lands : LandsFirst count old new) (run : IsRunning state honest new) where
  abbrev first : List Record
  first = take count old.staged

  abbrev rest : List Record
  rest = drop count old.staged

  memory_is : memory_of new ≡ memory_of old
  memory_is =
      ap (λ (l : List Record). coordinator_state (l ++ new.staged)) lands.durable
      ∙ ap (λ (l : List Record). coordinator_state ((old.durable ++ first) ++ l)) lands.staged
      ∙ ap coordinator_state (append_assoc old.durable first rest ∙ ap (λ (l : List Record). old.durable ++ l) (take-append-drop count old.staged))

  kept_is : kept_of new ≡ coordinator_from (kept_of old) first
  kept_is = ap coordinator_state lands.durable ∙ state_of_more old.durable first

  kept_log : (kept_of new).log ≡ (kept_of old).log ++ decided first
  kept_log = ap (λ (s : CoordinatorState). s.log) kept_is ∙ decided_behind (kept_of old) first

  kept_base : (kept_of new).base ≡ (kept_of old).base
  kept_base = ap (λ (s : CoordinatorState). s.base) kept_is ∙ base_behind low (length seen) (kept_of old) first rest (subst (AreStaged low (length seen)) (sym (take-append-drop count old.staged)) tied.staged)

  whole_log : (memory_of old).log ≡ (kept_of old).log ++ decided old.staged
  whole_log = ap (λ (s : CoordinatorState). s.log) (state_of_more old.durable old.staged) ∙ decided_behind (kept_of old) old.staged

  whole_base : (memory_of old).base ≡ (kept_of old).base
  whole_base = ap (λ (s : CoordinatorState). s.base) (state_of_more old.durable old.staged) ∙ base_staged low (length seen) (kept_of old) old.staged tied.staged

  parts : ((kept_of old).horizon ≤ (coordinator_from (kept_of old) first).horizon) × AreStaged (coordinator_from (kept_of old) first).horizon (length seen) rest
      × ((coordinator_from (kept_of old) first).epoch ≡ (kept_of old).epoch)
  parts = staged_in_two (kept_of old) (length seen) first rest
      (subst (AreStaged (kept_of old).horizon (length seen)) (sym (take-append-drop count old.staged)) (subst (λ n. AreStaged n (length seen) old.staged) tied.horizon tied.staged))

  raised : low ≤ (kept_of new).horizon
  raised = let p = parts.0 in omega (arith, p, tied.horizon, ap (λ (s : CoordinatorState). s.horizon) kept_is)

  staged_rest : AreStaged (kept_of new).horizon (length seen) rest
  staged_rest = subst (λ (s : CoordinatorState). AreStaged s.horizon (length seen) rest) (sym kept_is) parts.1

  abbrev base : ℕ
  base = (kept_of old).base

  low_base : base ≤ length seen
  low_base = let b = tied.kept.base in let w = tied.kept.within in omega (arith, b, w)

  -- what is staged is what the list has after what is kept
  more_is : tied.more ≡ decided old.staged
  more_is = append_cancel_left (drop base seen) tied.more (decided old.staged)
      (sym (drop-append-le base seen tied.more low_base)
      ∙ ap (λ n. drop n (seen ++ tied.more)) (sym whole_base)
      ∙ sym tied.all.decisions
      ∙ whole_log
      ∙ ap (λ (l : List Entry). l ++ decided old.staged) tied.kept.decisions)

  more_in_two : tied.more ≡ decided first ++ decided rest
  more_in_two = more_is ∙ ap decided (sym (take-append-drop count old.staged)) ∙ decided-append first rest

  added_is : behind seen (kept_of new) ≡ decided first
  added_is =
      ap (λ (l : List Entry). drop (length seen - (kept_of new).base) l) (kept_log ∙ ap (λ (l : List Entry). l ++ decided first) tied.kept.decisions)
      ∙ drop_at (drop base seen) (decided first) (length seen - (kept_of new).base) (let b = length-drop base seen in omega (arith, b, kept_base))

  list_is : seen ++ tied.more ≡ (seen ++ behind seen (kept_of new)) ++ decided rest
  list_is = ap (λ (l : List Entry). seen ++ l) more_in_two ∙ sym (append_assoc seen (decided first) (decided rest)) ∙ ap (λ (l : List Entry). (seen ++ l) ++ decided rest) (sym added_is)

  longer : length seen ≤ length (seen ++ behind seen (kept_of new))
  longer = omega (arith, length-append seen (behind seen (kept_of new)))

  epoch_is : (memory_of new).epoch ≡ (memory_of old).epoch
  epoch_is = ap (λ (s : CoordinatorState). s.epoch) memory_is

  pub landed : IsTiedUp state honest new (seen ++ behind seen (kept_of new)) (kept_of new).horizon tried
  landed = record {
    running = run;
    kept = record {
      decisions = kept_log ∙ ap (λ (l : List Entry). l ++ decided first) tied.kept.decisions ∙ sym (drop-append-le base seen (decided first) low_base)
          ∙ ap (λ n. drop n (seen ++ decided first)) (sym kept_base) ∙ ap (λ (l : List Entry). drop (kept_of new).base (seen ++ l)) (sym added_is);
      base = let b = tied.kept.base in omega (arith, b, kept_base, raised, tied.horizon);
      within = let w = staged_whole_within in omega (arith, w, longer);
    };
    whole = omega (arith, tied.whole, ap length kept_log, length-append (kept_of old).log (decided first), kept_base, length-append seen (behind seen (kept_of new)), ap length added_is);
    horizon = refl;
    staged = subst (AreStaged (kept_of new).horizon (length (seen ++ behind seen (kept_of new)))) (sym lands.staged) (staged_higher (kept_of new).horizon (length seen) (length (seen ++ behind seen (kept_of new))) rest longer staged_rest);
    more = decided rest;
    all = subst (λ (s : CoordinatorState). AreOf ((seen ++ behind seen (kept_of new)) ++ decided rest) s) (sym memory_is) (subst (λ (l : List Entry). AreOf l (memory_of old)) list_is tied.all);
    listed = subst (λ (s : CoordinatorState). AreListed s.epoch ((seen ++ behind seen (kept_of new)) ++ decided rest)) (sym memory_is) (subst (λ (l : List Entry). AreListed (memory_of old).epoch l) list_is tied.listed);
    outside = subst (AreOutside new) list_is (still_outside old new (seen ++ tied.more) epoch_is lands.given (λ id there. subst (λ (ids : List WriteId). Contains ids id) lands.open_ids there) tied.outside);
    attempts = subst (λ (s : CoordinatorState). AreTried s.epoch ((seen ++ behind seen (kept_of new)) ++ decided rest) tried) (sym memory_is) (subst (λ (l : List Entry). AreTried (memory_of old).epoch l tried) list_is tied.attempts);
  }
    where
      staged_whole_within : (kept_of new).horizon ≤ length seen
      staged_whole_within = staged_within (kept_of new).horizon (length seen) rest staged_rest

pub landings_stay_tied : {D E : Type 0} (state : D → State) (honest : D → Type 0) (state_of : E → State) (honest_of : E → Type 0) → LandingsStayTied state honest state_of honest_of
landings_stay_tied state honest state_of honest_of old new count seen low tried tied lands run = record {
  tied = landed state honest state_of honest_of old new count seen low tried tied lands run;
  raised = raised state honest state_of honest_of old new count seen low tried tied lands run;
}

pub flushes_stay_tied : {D : Type 0} (state : D → State) (honest : D → Type 0) → FlushesStayTied state honest
flushes_stay_tied state honest old new seen low tried tied flushes keeps run =
    landings_stay_tied state honest state honest old new (length old.staged) seen low tried tied
    (record {
      durable = flushes.durable ∙ ap (λ (l : List Record). old.durable ++ l) (sym (take_all (length old.staged) old.staged (omega arith)));
      staged = flushes.staged ∙ sym (drop_all (length old.staged) old.staged (omega arith));
      open_ids = keeps.open_ids;
      given = keeps.given;
    })
    run
