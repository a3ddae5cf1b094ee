-- A raise that the coordinator takes is a turn of a run, and each that it refuses has its cause.
use Rattle.std.proofs.Common.{◌≡◌, ◌≢◌, ◌⊎◌, inl, inr, ⊎_elim, ◌≤◌, ◌<◌, ℕ, true, List, [], ◌∷◌, ◌++◌, Contains, refl, sym, ◌∙◌, ap, subst, append_assoc, arith}
use Rattle.std.proofs.Math.Path.{fun_ext}
use Rattle.std.proofs.lemmas.Bool.{cases_lt}
use Rattle.std.proofs.lemmas.List.Elements.{All-nil, Contains-append_right}
use Rattle.turns.proofs.Words.{Asked, CoordinatorState, CoordinatorView, Decision, Dropped, Epoch, Holds, Horizon, Identity, IsBelow, IsCoordinatorImage, IsFull, IsFuture, IsLearnedInAll, IsQuietCall, IsRight, IsRightRaise, IsRightSettled, IsSeen, Learned, MayRaise, Moment, NodeName, NodeState, Nodes, Prepare, RaiseHolds, Record, Running, SameBut, StagesHorizon, Stands, at_shards, behind, behind_call, coordinator, coordinator_from, coordinator_image_push, coordinator_node, coordinator_push, coordinator_state, id_of, kept_of, leaves, memory_of, raising, shard, to_flush, to_raise, up, with_call}
use Rattle.records.specs.Coordinators.{BeginsCoordinatorImage, MayComeNext, MayComeNextInside, coordinator_step, marked_base}
use Rattle.records.specs.declared.record.Record.TheVariants.{Checkpoint}
use Rattle.records.specs.declared.mark.Inside.{Inside}
use Rattle.records.proofs.CoordinatorStates.{coordinator_keeps, state_of_more}
use Rattle.decisions.specs.Coordinators.{HaveSettled, IsRising, RaisesAt, StagesOne}
use Rattle.turns.specs.CoordinatorSeamLaws.{RaiseHasCause, RaisesTurn}
use Rattle.stores.proofs.Batches.{settled_is_learned}
use Rattle.turns.proofs.CoordinatorCalls.{horizon_is, kept_is, knows, same_epoch, whole}
use Rattle.turns.proofs.CoordinatorTurns.{seen_on}
use Rattle.turns.proofs.QuietTurns.{nothing_changes, one_more_staged, quiet_calls_turn}
use Rattle.stores.proofs.RaiseStep.{raises_stand}
use Rattle.tuples.proofs.Lists.{first_or_later}

-- the horizon that is known is that of before, or one that a record named since
abbrev IsRisen : CoordinatorState → List Record → Type 0
IsRisen s rs = ((coordinator_from s rs).horizon ≡ s.horizon) ⊎ ((x : ℕ) × Contains rs (Horizon x) × ((coordinator_from s rs).horizon ≡ x))

behind_one : (r : Record) (rs : List Record) (h : ℕ) (x : ℕ) → (x ≡ h) ⊎ ((y : ℕ) × Contains rs (Horizon y) × (x ≡ y)) → (x ≡ h) ⊎ ((y : ℕ) × Contains (r ∷ rs) (Horizon y) × (x ≡ y))
behind_one r rs h x (inl same) = inl same
behind_one r rs h x (inr (y, has, is)) = inr (y, Contains-append_right (r ∷ []) rs (Horizon y) has, is)

risen : (s : CoordinatorState) (rs : List Record) → IsRisen s rs
unfolding coordinator_step
risen s [] = inl refl
risen s (Prepare w ∷ rs) = behind_one (Prepare w) rs s.horizon _ (risen s rs)
risen s (Learned to placed_ids ∷ rs) = behind_one (Learned to placed_ids) rs s.horizon _ (risen s rs)
risen s (Dropped id ∷ rs) = behind_one (Dropped id) rs s.horizon _ (risen s rs)
risen s (Epoch a b c d ∷ rs) = behind_one (Epoch a b c d) rs s.horizon _ (risen (record s { epoch = a }) rs)
risen s (Decision place w ∷ rs) = behind_one (Decision place w) rs s.horizon _ (risen (record s { log = s.log ++ w ∷ [] }) rs)
risen s (Checkpoint mark ∷ rs) = behind_one (Checkpoint mark) rs s.horizon _ (risen (record s { base = marked_base mark s }) rs)
risen s (Horizon place ∷ rs) = ⊎_elim
    (λ same. inr (place, (0, omega arith, refl), same))
    (λ more. inr (more.0, Contains-append_right (Horizon place ∷ []) rs (Horizon more.0) more.1, more.2))
    (risen (record s { horizon = place }) rs)

-- no record of a coordinator lowers the horizon
one_rises : (me : Identity) (s : CoordinatorState) (r : Record) → MayComeNext me s r → s.horizon ≤ (coordinator_step s r).horizon
unfolding coordinator_step
one_rises me s (Prepare w) may = omega arith
one_rises me s (Learned to placed_ids) may = omega arith
one_rises me s (Dropped id) may = omega arith
one_rises me s (Epoch a b c d) may = omega arith
one_rises me s (Decision place w) may = omega arith
one_rises me s (Horizon place) may = may.on
one_rises me s (Checkpoint mark) may = absurd may

inside_rises : (me : Identity) (i : Inside) (s : CoordinatorState) (r : Record) → MayComeNextInside me i s r → s.horizon ≤ (coordinator_step s r).horizon
unfolding coordinator_step
inside_rises me i s (Prepare w) may = omega arith
inside_rises me i s (Learned to placed_ids) may = omega arith
inside_rises me i s (Dropped id) may = omega arith
inside_rises me i s (Epoch a b c d) may = omega arith
inside_rises me i s (Decision place w) may = omega arith
inside_rises me i s (Horizon place) may = may.on
inside_rises me i s (Checkpoint mark) may = omega arith

rises : (me : Identity) (before rs : List Record) → BeginsCoordinatorImage me (before ++ rs) → (coordinator_state before).horizon ≤ (coordinator_state (before ++ rs)).horizon
unfolding coordinator_step
rises me before rs image =
    let low = (coordinator_state before).horizon in
    coordinator_keeps me (λ (s : CoordinatorState). low ≤ s.horizon) (λ s r le may. let on = one_rises me s r may in omega (arith, le, on)) (λ i s r le may. let on = inside_rises me i s r may in omega (arith, le, on)) (λ s mark le may. le)
    before rs image (omega arith)

split : (rs : List Record) (r : Record) → Contains rs r → (before after : List Record) × (rs ≡ before ++ r ∷ after)
split [] r has = absurd (omega (arith, has.1))
split (y ∷ rs) r has = ⊎_elim
    (λ is. ([], rs, ap (λ (z : Record). z ∷ rs) is))
    (λ rest. let s = split rs r rest in (y ∷ s.0, s.1, ap (λ (l : List Record). y ∷ l) s.2))
    (first_or_later y r rs has)

-- each horizon that a record named lies at or below the one that is known
named_below : (me : Identity) (rs : List Record) (x : ℕ) → IsCoordinatorImage me rs → Contains rs (Horizon x) → x ≤ (coordinator_state rs).horizon
unfolding coordinator_step
named_below me rs x image has =
    let s = split rs (Horizon x) has in
    let longer : (s.0 ++ Horizon x ∷ []) ++ s.1 ≡ rs = append_assoc s.0 (Horizon x ∷ []) s.1 ∙ sym s.2 in
    let here : (coordinator_state (s.0 ++ Horizon x ∷ [])).horizon ≡ x = ap (λ (c : CoordinatorState). c.horizon) (coordinator_push s.0 (Horizon x)) in
    let low : (coordinator_state (s.0 ++ Horizon x ∷ [])).horizon ≤ (coordinator_state rs).horizon = subst (λ (l : List Record). (coordinator_state (s.0 ++ Horizon x ∷ [])).horizon ≤ (coordinator_state l).horizon) longer (rises me (s.0 ++ Horizon x ∷ []) s.1 (subst (BeginsCoordinatorImage me) (sym longer) image.each)) in
    omega (arith, here, low)

module _ (store shards : ℕ) (left : NodeName → List Record → Type 0) {D : Type 0} (now : Moment) (old new : CoordinatorView D) (r : Running) (place : ℕ) (h : RaiseHolds)
    (st : Stands store shards left now) (seen : IsSeen now.nodes old) (running : Contains now.running r) (asked : r.asked ≡ to_raise place) (holds : r.holds ≡ raising h)
    (raises : RaisesAt old place new) (settled : HaveSettled shards place h.settled) where
  abbrev next : Nodes
  next = behind now.nodes new now.nodes.open_writes

  abbrev all : List Record
  all = old.durable ++ old.staged

  image : IsCoordinatorImage (coordinator_node store shards) all
  image = (whole store shards left now old st seen).image

  raise_right : (m : Moment) → IsRight shards left m r r.asked r.holds → IsRightRaise shards left m r place h
  raise_right m k = subst (λ (a : Asked). IsRight shards left m r a (raising h)) asked (subst (λ (x : Holds). IsRight shards left m r r.asked x) holds k)

  learned : IsLearnedInAll shards (at_shards (leaves left now.nodes)) place
  learned = settled_is_learned store shards left now place h.settled (kept_of old) (memory_of old) st (knows store shards left now old st seen) (raise_right now (st.flows.held r running)).settled
      (λ s lt. let x = settled s lt in (x.0, x.1, x.2))

  same_but : SameBut coordinator now.nodes next
  same_but = record { others = λ k ne. unchanged k ne; open_writes = λ ne. absurd (ne refl); given = λ ne. absurd (ne refl) }
    where
      unchanged : (k : NodeName) → k ≢ coordinator → next.at k ≡ now.nodes.at k
      unchanged coordinator ne = absurd (ne refl)
      unchanged (shard t) ne = refl

  -- after it the store stands, and the coordinator knows a horizon at or above the place
  abbrev IsTaken : Type 0
  IsTaken = IsQuietCall store shards left left now next now.machine × (place ≤ (coordinator_state (new.durable ++ new.staged)).horizon) × (new.open_ids ≡ old.open_ids)

  module _ (none : IsRising old place → ⊥) (is : StagesOne old (Horizon place) new) where
    may : MayRaise (memory_of old) place
    may = record {
      opened = let e = same_epoch store shards left now old st seen in let some = st.nodes.coordinator_opened (kept_of old) (memory_of old) (knows store shards left now old st seen) in omega (arith, e, some);
      on = on;
      within = raises.within;
    }
      where
        on : (memory_of old).horizon ≤ place
        on =
            let from : (memory_of old).horizon ≡ (coordinator_from (kept_of old) old.staged).horizon = ap (λ (c : CoordinatorState). c.horizon) (state_of_more old.durable old.staged) in
            let low = raises.above in
            ⊎_elim
            (λ same. omega (arith, from, same, low))
            (λ more. ⊎_elim
            (λ (lt : more.0 < place). omega (arith, from, more.2, lt))
            (λ (le : place ≤ more.0). absurd (none (more.0, more.1, le)))
            (cases_lt more.0 place))
            (risen (kept_of old) old.staged)

    staged : up new.durable new.staged ≡ up old.durable (old.staged ++ Horizon place ∷ [])
    staged = ap (λ (v : CoordinatorView D). up v.durable v.staged) is

    given : next.given ≡ now.nodes.given
    given = ap (λ (v : CoordinatorView D). v.given) is ∙ sym seen.given

    step : StagesHorizon place now.nodes next
    step = record { durable = old.durable; staged = old.staged; was = seen.at; now = staged; shards = λ s. refl; open_writes = refl; given = given }

    no_opening : (a b c d : ℕ) → Horizon place ≡ Epoch a b c d → ⊥
    no_opening a b c d same = cc

    high : (coordinator_state (new.durable ++ new.staged)).horizon ≡ place
    unfolding coordinator_step
    high = ap (λ (v : CoordinatorView D). (coordinator_state (v.durable ++ v.staged)).horizon) is
        ∙ ap (λ (l : List Record). (coordinator_state l).horizon) (sym (append_assoc old.durable old.staged (Horizon place ∷ [])))
        ∙ ap (λ (c : CoordinatorState). c.horizon) (coordinator_push all (Horizon place))

    pub staged_is_taken : IsTaken
    unfolding step
    staged_is_taken = (
      one_more_staged store shards left now next coordinator (Horizon place) (record { durable = old.durable; staged = old.staged; was = seen.at; now = staged; others = same_but })
          no_opening refl given
          (raises_stand store shards left now next place st step (coordinator_image_push (coordinator_node store shards) all (Horizon place) image may) learned),
      omega (arith, high),
      ap (λ (v : CoordinatorView D). v.open_ids) is,
    )

  rising_is_taken : IsRising old place → new ≡ old → IsTaken
  rising_is_taken rising same = (
    subst (λ (n : Nodes). IsQuietCall store shards left left now n now.machine) (sym unchanged) (nothing_changes store shards left now st),
    subst (λ (v : CoordinatorView D). place ≤ (coordinator_state (v.durable ++ v.staged)).horizon) (sym same) high,
    ap (λ (v : CoordinatorView D). v.open_ids) same,
  )
    where
      at_same : (n : NodeName) → next.at n ≡ now.nodes.at n
      at_same coordinator = ap (λ (v : CoordinatorView D). up v.durable v.staged) same ∙ sym seen.at
      at_same (shard s) = refl

      unchanged : next ≡ now.nodes
      unchanged =
          ap (λ (at : NodeName → NodeState). record { at = at; open_writes = now.nodes.open_writes; given = next.given }) (fun_ext at_same)
          ∙ ap (λ (g : ℕ). record { at = now.nodes.at; open_writes = now.nodes.open_writes; given = g }) (ap (λ (v : CoordinatorView D). v.given) same ∙ sym seen.given)

      high : place ≤ (coordinator_state all).horizon
      high = let low = named_below (coordinator_node store shards) all rising.0 image (Contains-append_right old.durable old.staged (Horizon rising.0) rising.1) in let le = rising.2 in omega (arith, low, le)

  taken : IsTaken
  taken = ⊎_elim (λ one. staged_is_taken one.0 one.1) (λ none. rising_is_taken none.0 none.1) raises.new_is

  seen_after : IsSeen next new
  seen_after = record { at = refl; open_writes = seen.open_writes ∙ sym taken.2; given = refl }

  abbrev given_up : Holds
  given_up = raising (record h { settled = []; is_raised = true })

  abbrev later : Running
  later = with_call r given_up r.met now.machine

  abbrev behind_it : Moment
  behind_it = behind_call now next now.machine

  was : IsRightRaise shards left behind_it later place h
  was =
      let k = seen_on shards left behind_it r given_up now.machine r.asked r.holds (taken.0.stands.flows.held r running) in
      subst (λ (a : Asked). IsRight shards left behind_it later a (raising h)) asked (subst (λ (x : Holds). IsRight shards left behind_it later r.asked x) holds k)

  right : IsRight shards left behind_it later (to_raise place) given_up
  right = record {
    named = was.named;
    heads = was.heads;
    settled = All-nil (IsRightSettled shards left place);
    batch = was.batch;
    raised = λ yes same. inr (inl (record { durable = new.durable; staged = new.staged; is_up = refl; enough = taken.1 }));
  }

pub raises_turn : (store shards : ℕ) (left : NodeName → List Record → Type 0) (D : Type 0) → RaisesTurn store shards left D
raises_turn store shards left D now old new r place h st seen running asked holds raises settled =
    let turn = quiet_calls_turn store shards left left now (behind now.nodes new now.nodes.open_writes) now.machine r (raising (record h { settled = []; is_raised = true })) r.met (record {
      call = (taken store shards left now old new r place h st seen running asked holds raises settled).0;
      running = running;
      same_id = ap id_of (sym holds);
      right = subst (λ (a : Asked). IsRight shards left (behind_call now (behind now.nodes new now.nodes.open_writes) now.machine) (with_call r (raising (record h { settled = []; is_raised = true })) r.met now.machine) a (raising (record h { settled = []; is_raised = true })))
          (sym asked) (right store shards left now old new r place h st seen running asked holds raises settled);
    }) (inl refl) in
    (seen_after store shards left now old new r place h st seen running asked holds raises settled, turn.0, turn.1)

pub raise_has_cause : (store shards : ℕ) (left : NodeName → List Record → Type 0) (D : Type 0) → RaiseHasCause store shards left D
raise_has_cause store shards left D now after v r place st seen asked fits = (
  λ high. subst (IsFuture now.machine) (sym asked) (subst (λ (n : ℕ). n < place) (kept_is store shards left now v st seen) high),
  λ low. subst (IsBelow now.machine.horizon r) (sym asked) (subst (λ (n : ℕ). place < n) (horizon_is store shards left now v st seen) low),
  λ full. subst (IsFull shards coordinator now r) (sym asked) (record {
    durable = v.durable;
    staged = v.staged;
    next = Horizon place;
    calls = λ s is. no_flush s (sym asked ∙ is);
    is_up = seen.at;
    stages = asked;
    is_record = fits;
    no_room = full;
  }),
)
  where
    no_flush : (s : ℕ) → to_raise place ≡ to_flush (shard s) → ⊥
    no_flush s is = cc
