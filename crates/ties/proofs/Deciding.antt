-- A write that is begun, aborted or decided, and what becomes of a decision, leave a coordinator tied.
use Rattle.std.proofs.Common.{◌≡◌, inl, inr, ⊎_elim, ℕ, ◌+◌, ◌≤◌, ◌<◌, List, [], ◌∷◌, ◌++◌, length, Some, slice_get, Contains, refl, sym, ◌∙◌, ap, subst, arith, append_assoc, length-append, zero, suc}
use Rattle.std.proofs.lemmas.Bool.{cases_lt}
use Rattle.std.proofs.lemmas.List.{drop-append-le, length-drop}
use Rattle.coordinator.proofs.OpenIds.{without_none}
use Rattle.ties.proofs.Words.{AreListed, AreOf, AreOutside, AreStaged, AreTried, Attempt, coordinator_push, CoordinatorState, CoordinatorView, Decision, Entry, Horizon, IsGivenAt, IsRunning, IsTiedUp, IsWrite, kept_of, memory_of, StandsOrIsPast, State, without_id, WriteId}
use Rattle.records.specs.Coordinators.{coordinator_state, coordinator_step, end_of}
use Rattle.records.proofs.CoordinatorStates.{state_of_more}
use Rattle.decisions.specs.Coordinators.{IsRising, next_id}
use Rattle.ties.specs.DecidingLaws.{AbortsStayTied, BeginningsStayTied, DecisionsStayTied, KeptAttemptsStand, RaisesStayTied, attempt}
use Rattle.ties.proofs.Decided.{base_staged, staged_decision, staged_horizon}
use Rattle.ties.proofs.Outside.{kept_open, still_given, still_outside}
use Rattle.tuples.proofs.Lists.{slice_get_push, slice_get_last, slice_get_longer, first_or_later}

-- what stands in a longer list at a place of the list stands in the list
get_back : {X : Type 0} (xs ys : List X) (x : X) (j : ℕ) → slice_get (xs ++ ys) j ≡ Some x → j < length xs → slice_get xs j ≡ Some x
get_back [] ys x j is lt = absurd (omega (arith, lt))
get_back (z ∷ xs) ys x zero is lt = is
get_back (z ∷ xs) ys x (suc j) is lt = get_back xs ys x j is (omega (arith, lt))

-- Given what a device holds and whether it is honest, and a coordinator that is tied
module _ {D : Type 0} (state : D → State) (honest : D → Type 0) (old : CoordinatorView D) (seen : List Entry) (low : ℕ) (tried : List Attempt) (tied : IsTiedUp state honest old seen low tried) where
  -- it stays so if what lies in memory alone is changed
  in_memory : (ids : List WriteId) (n : ℕ) → AreOutside (record old { open_ids = ids; given = n }) (seen ++ tied.more) → IsTiedUp state honest (record old { open_ids = ids; given = n }) seen low tried
  in_memory ids n outside = record {
    running = record { honest_a = tied.running.honest_a; honest_b = tied.running.honest_b; up = tied.running.up; rest = tied.running.rest };
    kept = tied.kept;
    whole = tied.whole;
    horizon = tied.horizon;
    staged = tied.staged;
    more = tied.more;
    all = tied.all;
    listed = tied.listed;
    outside = outside;
    attempts = tied.attempts;
  }

  -- the next id was never given
  never_given : (id : WriteId) → next_id old ≡ id → IsGivenAt old id → ⊥
  never_given id same is =
      let epoch = ap (λ (x : WriteId). x.epoch) same in
      let number = ap (λ (x : WriteId). x.number) same in
      ⊎_elim (λ lt. omega (arith, lt, epoch)) (λ eq. omega (arith, eq.1, number)) is

  begun : IsTiedUp state honest (record old { open_ids = next_id old ∷ old.open_ids; given = old.given + 1 }) seen low tried
  begun = in_memory (next_id old ∷ old.open_ids) (old.given + 1) (record {
    listed = λ j w is.
        let o = tied.outside.listed j w is in (
          ⊎_elim (λ lt. inl lt) (λ eq. inr (eq.0, omega (arith, eq.1))) o.0,
          λ there. ⊎_elim (λ same. never_given w.id same o.0) (λ later. o.1 later) (first_or_later (next_id old) w.id old.open_ids there),
        );
    still_open = λ id there. ⊎_elim
        (λ same. (sym (ap (λ (x : WriteId). x.epoch) same), let number = ap (λ (x : WriteId). x.number) same in omega (arith, number)))
        (λ later. let o = tied.outside.still_open id later in (o.0, omega (arith, o.1)))
        (first_or_later (next_id old) id old.open_ids there);
  })

  aborted : (id : WriteId) → IsTiedUp state honest (record old { open_ids = without_id id old.open_ids }) seen low tried
  aborted id = in_memory (without_id id old.open_ids) old.given
      (still_outside old (record old { open_ids = without_id id old.open_ids }) (seen ++ tied.more) refl refl (kept_open id old.open_ids) tied.outside)

  -- Given that the horizon is raised to a kept place by one more record
  module _ (place : ℕ) (none : IsRising old place → ⊥) (above : (kept_of old).horizon ≤ place) (within : place ≤ end_of (kept_of old)) where
    abbrev raised : CoordinatorView D
    raised = record old { staged = old.staged ++ Horizon place ∷ [] }

    raised_is : memory_of raised ≡ record (memory_of old) { horizon = place }
    unfolding coordinator_step
    raised_is = ap coordinator_state (sym (append_assoc old.durable old.staged (Horizon place ∷ []))) ∙ coordinator_push (old.durable ++ old.staged) (Horizon place)

    raised_epoch : (memory_of raised).epoch ≡ (memory_of old).epoch
    raised_epoch = ap (λ (s : CoordinatorState). s.epoch) raised_is

    same_base : (memory_of old).base ≡ (kept_of old).base
    same_base = ap (λ (s : CoordinatorState). s.base) (state_of_more old.durable old.staged) ∙ base_staged low (length seen) (kept_of old) old.staged tied.staged

    raised_tied : IsTiedUp state honest raised seen low tried
    raised_tied = record {
      running = record { honest_a = tied.running.honest_a; honest_b = tied.running.honest_b; up = tied.running.up; rest = tied.running.rest };
      kept = tied.kept;
      whole = tied.whole;
      horizon = tied.horizon;
      staged = staged_horizon low (length seen) place old.staged (omega (arith, above, tied.horizon)) (omega (arith, within, tied.whole))
          (λ x there. ⊎_elim (λ (lt : x < place). lt) (λ (le : place ≤ x). absurd (none (x, there, le))) (cases_lt x place))
          tied.staged;
      more = tied.more;
      all = subst (AreOf (seen ++ tied.more)) (sym raised_is) (record {
        decisions = tied.all.decisions;
        base = let b = tied.kept.base in omega (arith, b, same_base, above);
        within = omega (arith, within, tied.whole, length-append seen tied.more);
      });
      listed = subst (λ (n : ℕ). AreListed n (seen ++ tied.more)) (sym raised_epoch) tied.listed;
      outside = still_outside old raised (seen ++ tied.more) raised_epoch refl (λ id there. there) tied.outside;
      attempts = subst (λ (n : ℕ). AreTried n (seen ++ tied.more) tried) (sym raised_epoch) tied.attempts;
    }

pub beginnings_stay_tied : {D : Type 0} (state : D → State) (honest : D → Type 0) → BeginningsStayTied state honest
beginnings_stay_tied {D} state honest old new changes conditions i seen low tried tied begins = (
  subst (λ (v : CoordinatorView D). IsTiedUp state honest v seen low tried) (sym begins.new_is) (begun state honest old seen low tried tied),
  begins.kept ∙ sym tied.whole,
)

pub aborts_stay_tied : {D : Type 0} (state : D → State) (honest : D → Type 0) → AbortsStayTied state honest
aborts_stay_tied {D} state honest old new id seen low tried tied aborts =
    subst (λ (v : CoordinatorView D). IsTiedUp state honest v seen low tried) (sym aborts.new_is) (aborted state honest old seen low tried tied id)

pub raises_stay_tied : {D : Type 0} (state : D → State) (honest : D → Type 0) → RaisesStayTied state honest
raises_stay_tied {D} state honest old new place seen low tried tied raises within = ⊎_elim
    (λ more. subst (λ (v : CoordinatorView D). IsTiedUp state honest v seen low tried) (sym more.1) (raised_tied state honest old seen low tried tied place more.0 raises.above within))
    (λ same. subst (λ (v : CoordinatorView D). IsTiedUp state honest v seen low tried) (sym same.1) tied)
    raises.new_is

-- a kept attempt stands in the list
pub kept_attempts_stand : {D : Type 0} (state : D → State) (honest : D → Type 0) → KeptAttemptsStand state honest
kept_attempts_stand state honest v d x j seen low tried tied kept at same_epoch same_place =
    let now : d.epoch ≡ (memory_of v).epoch = kept.now.epoch in
    ⊎_elim
    (λ past. absurd (omega (arith, past, same_epoch, now)))
    (λ here.
    let k = here.1.0 in
    let place : d.place ≡ k + 1 = sym same_place ∙ here.1.1 in
    let in_seen : k < length seen = let r = kept.reached in let w = tied.whole in omega (arith, r, w, place) in
    let found : slice_get seen k ≡ Some x.write = get_back seen tied.more x.write k here.1.2 in_seen in
    record {
      index = k;
      place_is = place;
      there = found;
      once = λ i u is same. tied.listed.new i k u x.write (slice_get_longer seen tied.more i u is) (slice_get_longer seen tied.more k x.write found) same;
    })
    (tied.attempts j x at)

pub decisions_stay_tied : {D : Type 0} (state : D → State) (honest : D → Type 0) → DecisionsStayTied state honest
unfolding coordinator_step
decisions_stay_tied {D} state honest old new w d seen low tried tied decides = (
  record {
    running = subst (IsRunning state honest) (sym decides.new_is) (record { honest_a = tied.running.honest_a; honest_b = tied.running.honest_b; up = tied.running.up; rest = tied.running.rest });
    kept = subst (AreOf seen) (sym kept_is) tied.kept;
    whole = tied.whole ∙ sym (ap end_of kept_is);
    horizon = tied.horizon ∙ sym (ap (λ (s : CoordinatorState). s.horizon) kept_is);
    staged = subst (λ (v : CoordinatorView D). AreStaged low (length seen) v.staged) (sym decides.new_is) (staged_decision low (length seen) d.place w old.staged tied.staged);
    more = tied.more ++ w ∷ [];
    all = subst (λ (l : List Entry). AreOf l (memory_of new)) assoc all;
    listed = subst (λ (l : List Entry). AreListed (memory_of new).epoch l) assoc listed;
    outside = subst (AreOutside new) assoc outside;
    attempts = subst (λ (l : List Entry). AreTried (memory_of new).epoch l (tried ++ attempt d w ∷ [])) assoc all_tried;
  },
  above,
)
  where
    log : List Entry
    log = seen ++ tied.more

    assoc : log ++ w ∷ [] ≡ seen ++ (tied.more ++ w ∷ [])
    assoc = append_assoc seen tied.more (w ∷ [])

    kept_is : kept_of new ≡ kept_of old
    kept_is = ap kept_of decides.new_is

    step : memory_of new ≡ coordinator_step (memory_of old) (Decision d.place w)
    step =
        ap (λ (v : CoordinatorView D). memory_of v) decides.new_is
        ∙ ap coordinator_state (sym (append_assoc old.durable old.staged (Decision d.place w ∷ [])))
        ∙ coordinator_push (old.durable ++ old.staged) (Decision d.place w)

    pushed : memory_of new ≡ record (memory_of old) { log = (memory_of old).log ++ w ∷ [] }
    pushed = step

    epoch_is : (memory_of new).epoch ≡ (memory_of old).epoch
    epoch_is = ap (λ (s : CoordinatorState). s.epoch) pushed

    low_base : (memory_of old).base ≤ length log
    low_base = let b = tied.all.base in let c = tied.all.within in omega (arith, b, c)

    all : AreOf (log ++ w ∷ []) (memory_of new)
    all = subst (AreOf (log ++ w ∷ [])) (sym pushed) (record {
      decisions = ap (λ (l : List Entry). l ++ w ∷ []) tied.all.decisions ∙ sym (drop-append-le (memory_of old).base log (w ∷ []) low_base);
      base = tied.all.base;
      within = let b = tied.all.within in omega (arith, b, length-append log (w ∷ []));
    })

    end_is : end_of (memory_of old) ≡ length log
    end_is = omega (arith, low_base, ap length tied.all.decisions, length-drop (memory_of old).base log)

    place : d.place ≡ length log + 1
    place = decides.place ∙ ap (λ n. n + 1) end_is

    above : length seen < d.place
    above = omega (arith, place, length-append seen tied.more)

    fresh : (j : ℕ) (u : Entry) → slice_get log j ≡ Some u → u.id ≡ w.id → ⊥
    fresh j u is same = (tied.outside.listed j u is).1 (subst (Contains old.open_ids) (sym same) decides.is_open)

    was_open : IsGivenAt old w.id
    was_open = let o = tied.outside.still_open w.id decides.is_open in inr (o.0, o.1)

    listed : AreListed (memory_of new).epoch (log ++ w ∷ [])
    listed = record {
      whole = λ j u is. ⊎_elim (λ was. tied.listed.whole j u was) (λ last. subst (λ (e : Entry). IsWrite e.changes e.conditions) last.1 decides.whole.whole) (slice_get_push log w u j is);
      new = λ i j u v at_i at_j same. ⊎_elim
          (λ i_was. ⊎_elim
          (λ j_was. tied.listed.new i j u v i_was j_was same)
          (λ j_last. absurd (fresh i u i_was (same ∙ ap (λ (e : Entry). e.id) (sym j_last.1))))
          (slice_get_push log w v j at_j))
          (λ i_last. ⊎_elim
          (λ j_was. absurd (fresh j v j_was (sym same ∙ ap (λ (e : Entry). e.id) (sym i_last.1))))
          (λ j_last. i_last.0 ∙ sym j_last.0)
          (slice_get_push log w v j at_j))
          (slice_get_push log w u i at_i);
      given = λ j u is. ⊎_elim
          (λ was. let g = tied.listed.given j u was in omega (arith, g, epoch_is))
          (λ last. omega (arith, epoch_is, decides.own_epoch, ap (λ (e : Entry). e.id.epoch) last.1))
          (slice_get_push log w u j is);
    }

    given_is : new.given ≡ old.given
    given_is = ap (λ (v : CoordinatorView D). v.given) decides.new_is

    open_is : new.open_ids ≡ without_id w.id old.open_ids
    open_is = ap (λ (v : CoordinatorView D). v.open_ids) decides.new_is

    given : (id : WriteId) → IsGivenAt old id → IsGivenAt new id
    given id g = still_given old new id epoch_is (omega (arith, given_is)) g

    outside : AreOutside new (log ++ w ∷ [])
    outside = record {
      listed = λ j u is. ⊎_elim
          (λ was. (
            given u.id (tied.outside.listed j u was).0,
            λ there. (tied.outside.listed j u was).1 (kept_open w.id old.open_ids u.id (subst (λ (ids : List WriteId). Contains ids u.id) open_is there)),
          ))
          (λ last. (
            subst (λ (e : Entry). IsGivenAt new e.id) last.1 (given w.id was_open),
            λ there. without_none w.id old.open_ids (subst (λ (ids : List WriteId). Contains ids w.id) open_is (subst (λ (e : Entry). Contains new.open_ids e.id) (sym last.1) there)),
          ))
          (slice_get_push log w u j is);
      still_open = λ id there.
          let o = tied.outside.still_open id (kept_open w.id old.open_ids id (subst (λ (ids : List WriteId). Contains ids id) open_is there)) in
          (o.0 ∙ sym epoch_is, omega (arith, o.1, given_is));
    }

    still_stands : (x : Attempt) → StandsOrIsPast (memory_of old).epoch log x → StandsOrIsPast (memory_of new).epoch (log ++ w ∷ []) x
    still_stands x s = ⊎_elim
        (λ past. inl (omega (arith, past, epoch_is)))
        (λ here. inr (here.0 ∙ sym epoch_is, (here.1.0, here.1.1, slice_get_longer log (w ∷ []) here.1.0 x.write here.1.2)))
        s

    all_tried : AreTried (memory_of new).epoch (log ++ w ∷ []) (tried ++ attempt d w ∷ [])
    all_tried j x at = ⊎_elim
        (λ was. still_stands x (tied.attempts j x was))
        (λ last. subst (StandsOrIsPast (memory_of new).epoch (log ++ w ∷ [])) last.1 (inr (decides.epoch ∙ sym epoch_is, (length log, place, slice_get_last log w))))
        (slice_get_push tried (attempt d w) x j at)
