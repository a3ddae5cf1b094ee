-- The coordinator of a store that stands stages a decision: what the nodes know then.
use Rattle.std.proofs.Common.{◌≡◌, ◌≢◌, inl, inr, ⊎_elim, ℕ, ◌+◌, ◌≤◌, List, [], ◌∷◌, ◌++◌, length, Contains, refl, sym, ◌∙◌, ap, subst, arith, append_assoc, false}
use Rattle.std.proofs.lemmas.List.{length_push, take-append-le}
use Rattle.std.proofs.lemmas.List.Elements.{Contains-append_right, Contains-push_cases}
use Rattle.stores.proofs.Words.{AreNew, CoordinatorKnows, CoordinatorState, Decision, Dropped, Entry, Epoch, HeadsStand, Horizon, IdsStand, IsDeciding, IsOpen, IsRightVerdict, IsUnlisted, Learned, ListedStand, LocksStand, Means, Moment, NodeName, Nodes, NodesStand, Prepare, Record, Rests, WasGiven, WriteId, at_shards, coordinator, coordinator_from, coordinator_from-append, coordinator_push, empty_coordinator, end_of, leaves, less_rests, of_without, shard, shard_state, slice_get_push, staged_of, up, with_decision, with_write, without}
use Rattle.records.specs.Coordinators.{coordinator_state, coordinator_step}
use Rattle.records.specs.declared.record.Record.TheVariants.{Checkpoint}
use Rattle.laws.proofs.CoordinatorSteps.{decisions_rest}
use Rattle.stores.proofs.CoordinatorStages as stages
use Rattle.stores.proofs.Frames.{KeepsStore, given_on, shard_less, verdict_on}
use Rattle.tuples.proofs.Lists.{slice_get_longer}
use Rattle.laws.proofs.Without.{few_still, new_without, other_without}
use Rattle.stores.proofs.ShardStages.{durable_in}
use Rattle.stores.proofs.ShardStagesStands.{contained_at, contained_from}
use Rattle.laws.proofs.DecisionStep.{listed_means}

-- records without an opening leave the epoch as it is
pub epoch_stays : (s : CoordinatorState) (rs : List Record) → ((a b c d : ℕ) → Contains rs (Epoch a b c d) → ⊥) → (coordinator_from s rs).epoch ≡ s.epoch
unfolding coordinator_step
epoch_stays s [] none = refl
epoch_stays s (Prepare v ∷ rs) none = epoch_stays (coordinator_step s (Prepare v)) rs (λ a b c d has. none a b c d (Contains-append_right (Prepare v ∷ []) rs (Epoch a b c d) has))
epoch_stays s (Learned to placed_ids ∷ rs) none = epoch_stays (coordinator_step s (Learned to placed_ids)) rs (λ a b c d has. none a b c d (Contains-append_right (Learned to placed_ids ∷ []) rs (Epoch a b c d) has))
epoch_stays s (Dropped id ∷ rs) none = epoch_stays (coordinator_step s (Dropped id)) rs (λ a b c d has. none a b c d (Contains-append_right (Dropped id ∷ []) rs (Epoch a b c d) has))
epoch_stays s (Checkpoint mark ∷ rs) none = epoch_stays (coordinator_step s (Checkpoint mark)) rs (λ a b c d has. none a b c d (Contains-append_right (Checkpoint mark ∷ []) rs (Epoch a b c d) has))
epoch_stays s (Epoch e f g h ∷ rs) none = absurd (none e f g h (0, omega arith, refl))
epoch_stays s (Decision place v ∷ rs) none = epoch_stays (coordinator_step s (Decision place v)) rs (λ a b c d has. none a b c d (Contains-append_right (Decision place v ∷ []) rs (Epoch a b c d) has))
epoch_stays s (Horizon place ∷ rs) none = epoch_stays (coordinator_step s (Horizon place)) rs (λ a b c d has. none a b c d (Contains-append_right (Horizon place ∷ []) rs (Epoch a b c d) has))

-- so what is staged after durable records leaves theirs
pub staged_epoch : (durable staged : List Record) → ((a b c d : ℕ) → Contains staged (Epoch a b c d) → ⊥) → (coordinator_state (durable ++ staged)).epoch ≡ (coordinator_state durable).epoch
unfolding coordinator_state
staged_epoch durable staged none = ap (λ (c : CoordinatorState). c.epoch) (coordinator_from-append empty_coordinator durable staged) ∙ epoch_stays (coordinator_from empty_coordinator durable) staged none

module _ (store shards : ℕ) (left : NodeName → List Record → Type 0) (now : Moment) (next : Nodes) (place : ℕ) (w : Entry) (st : IsDeciding store shards left now next place w) where
  pub knew : CoordinatorKnows now.nodes (coordinator_state st.step.durable) (coordinator_state (st.step.durable ++ st.step.staged))
  knew = record { durable = st.step.durable; staged = st.step.staged; is_up = st.step.was; durable_state = refl; replayed = refl }

  -- what the coordinator knows now: the same is durable, and it has one more decision
  pub knows_now : (kept m : CoordinatorState) → CoordinatorKnows next kept m → (kept ≡ coordinator_state st.step.durable) × (m ≡ coordinator_step (coordinator_state (st.step.durable ++ st.step.staged)) (Decision place w))
  knows_now = stages.knows_now store shards left now next st.stands (Decision place w) st.step.durable st.step.staged st.step.was st.step.now st.step.shards

  pub same_epoch : (kept m : CoordinatorState) → CoordinatorKnows next kept m → m.epoch ≡ (coordinator_state (st.step.durable ++ st.step.staged)).epoch
  unfolding coordinator_step
  same_epoch kept m k = ap (λ (c : CoordinatorState). c.epoch) (knows_now kept m k).1

  pub shard_left : (t : ℕ) (found : List Record) → leaves left next (shard t) found → leaves left now.nodes (shard t) found
  shard_left = shard_less shards left left now (with_decision now next w) false st.step.shards (λ t rs is. is)

  pub was_open : (v : Entry) → IsOpen next v → IsOpen now.nodes v × (v.id ≢ w.id)
  was_open v is =
      let has : Contains (without w.id now.nodes.open_writes) v = subst (λ (l : List Entry). Contains l v) st.step.open_writes is in
      let at = contained_at (without w.id now.nodes.open_writes) v has in
      let old = of_without w.id now.nodes.open_writes at.0 v at.1 in
      (contained_from now.nodes.open_writes old.0 v old.1, other_without w.id now.nodes.open_writes v has)

  -- a decision leaves the horizon that the coordinator knows
  pub same_horizon : (coordinator_state (st.step.durable ++ st.step.staged)).horizon ≡ (coordinator_state (st.step.durable ++ (st.step.staged ++ Decision place w ∷ []))).horizon
  unfolding coordinator_step
  same_horizon = sym (ap (λ (c : CoordinatorState). c.horizon) (ap coordinator_state (sym (append_assoc st.step.durable st.step.staged (Decision place w ∷ []))) ∙ coordinator_push (st.step.durable ++ st.step.staged) (Decision place w)))

  pub keeps : KeepsStore shards left left now (with_decision now next w) false
  keeps = record {
    kept = omega arith;
    horizon = omega arith;
    same_log = sym (take-append-le now.machine.kept now.machine.log (w ∷ []) st.stands.rests.within);
    listed = λ j v is. ⊎_elim (λ old. inl old) (λ new. inr (subst (IsOpen now.nodes) new.1 st.is_open)) (slice_get_push now.machine.log w v j is);
    was_open = λ v given here. (was_open v here).0;
    coordinator_knew = λ kept m k. inl (record {
      kept = coordinator_state st.step.durable;
      before = coordinator_state (st.step.durable ++ st.step.staged);
      knew = knew;
      epoch = sym (same_epoch kept m k);
      given = omega (arith, st.step.given);
      log = slice_get_longer now.machine.log (w ∷ []);
      unopened = refl;
    });
    given_out = λ id g. g.epoch;
    epochs = λ t epoch is. is;
    settled = λ t p is. is;
    taken = λ unopened. stages.still_taken store shards left now next st.stands (Decision place w) st.step.durable st.step.staged st.step.was st.step.now st.step.shards (with_decision now next w) refl (omega arith) (omega (arith, same_horizon));
    named = λ x is. is;
  }

  pub given_kept : (id : WriteId) → WasGiven shards left now.nodes id → WasGiven shards left next id
  given_kept = given_on shards left left now (with_decision now next w) false keeps

  pub verdict_kept : (id : WriteId) → IsRightVerdict shards left now id → IsRightVerdict shards left (with_decision now next w) id
  verdict_kept = verdict_on shards left left now (with_decision now next w) false keeps

  pub unlisted_longer : (id : WriteId) → id ≢ w.id → IsUnlisted id now.machine.log → IsUnlisted id (now.machine.log ++ w ∷ [])
  unlisted_longer id ne unlisted j v is same = ⊎_elim (λ old. unlisted j v old same) (λ new. ne (same ∙ ap (λ (e : Entry). e.id) (sym new.1))) (slice_get_push now.machine.log w v j is)

  -- what the coordinator knew
  pub knew_only : (kept m : CoordinatorState) → CoordinatorKnows now.nodes kept m → m ≡ coordinator_state (st.step.durable ++ st.step.staged)
  knew_only kept m k =
      let both : up k.durable k.staged ≡ up st.step.durable st.step.staged = sym k.is_up ∙ st.step.was in
      k.replayed ∙ ap (λ (l : List Record). coordinator_state (l ++ k.staged)) (ap durable_in both) ∙ ap (λ (l : List Record). coordinator_state (st.step.durable ++ l)) (ap staged_of both)

  durable_epoch : (coordinator_state (st.step.durable ++ st.step.staged)).epoch ≡ (coordinator_state st.step.durable).epoch
  durable_epoch = staged_epoch st.step.durable st.step.staged (λ a b c d has. st.stands.nodes.no_opening coordinator st.step.durable st.step.staged a b c d st.step.was has)

  own_epoch : w.id.epoch ≡ (coordinator_state (st.step.durable ++ st.step.staged)).epoch
  own_epoch = (st.stands.ids.of_now w st.is_open _ _ knew).0

  pub own_given : WasGiven shards left now.nodes w.id
  own_given = record {
    epoch = λ found is.
        let only : found ≡ st.step.durable = (st.stands.nodes.durable coordinator st.step.durable st.step.staged found st.step.was).0 is in
        subst (λ (l : List Record). w.id.epoch ≤ (coordinator_state l).epoch) (sym only) (let a = own_epoch in let b = durable_epoch in omega (arith, a, b));
    now = λ kept m k. inr (own_epoch ∙ ap (λ (c : CoordinatorState). c.epoch) (sym (knew_only kept m k)), (st.stands.ids.of_now w st.is_open _ _ knew).1);
  }

  -- both parts of the law of decisions, over the shards as they are now
  both_rest : Rests store shards (now.machine.log ++ w ∷ []) now.machine.kept now.machine.horizon (leaves left next coordinator) (at_shards (leaves left now.nodes))
      × Means store shards (now.machine.log ++ w ∷ []) now.machine.horizon ((st.step.durable ++ st.step.staged) ++ Decision place w ∷ []) (at_shards (leaves left now.nodes))
  both_rest =
      let a = own_epoch in
      decisions_rest (leaves left now.nodes coordinator) (leaves left next coordinator) (at_shards (leaves left now.nodes)) store shards now.machine.log now.machine.kept now.machine.horizon (st.step.durable ++ st.step.staged) place w
      (record { rests = st.stands.rests; here = stages.here store shards left now next st.stands (Decision place w) st.step.durable st.step.staged st.step.was st.step.now st.step.shards; image = st.image; adds = stages.coordinator_left store shards left now next st.stands (Decision place w) st.step.durable st.step.staged st.step.was st.step.now st.step.shards })
      (st.stands.heads.whole st.step.durable st.step.staged st.step.was)
      (record { whole = st.whole; new = st.stands.ids.unlisted w st.is_open; given = omega (arith, a); prepared = st.prepared; conditions = st.conditions })

  pub rests_kept : Rests store shards (now.machine.log ++ w ∷ []) now.machine.kept now.machine.horizon (leaves left next coordinator) (at_shards (leaves left next))
  rests_kept = (less_rests (leaves left next coordinator) (leaves left next coordinator) (at_shards (leaves left now.nodes)) (at_shards (leaves left next)) store shards (now.machine.log ++ w ∷ []) now.machine.kept now.machine.horizon
      (λ found is. is) shard_left).0 both_rest.0

  whole_kept : Means store shards (now.machine.log ++ w ∷ []) now.machine.horizon ((st.step.durable ++ st.step.staged) ++ Decision place w ∷ []) (at_shards (leaves left next))
  whole_kept = (less_rests (leaves left next coordinator) (leaves left next coordinator) (at_shards (leaves left now.nodes)) (at_shards (leaves left next)) store shards (now.machine.log ++ w ∷ []) now.machine.kept now.machine.horizon
      (λ found is. is) shard_left).1 ((st.step.durable ++ st.step.staged) ++ Decision place w ∷ []) both_rest.1

  pub nodes_kept : NodesStand store shards left next
  nodes_kept = stages.nodes_kept store shards left now next st.stands (Decision place w) st.step.durable st.step.staged st.step.was st.step.now st.step.shards (λ a b c d is. absurd cc)

  pub heads_kept : HeadsStand store shards left next (with_write now.machine w)
  unfolding coordinator_step
  heads_kept = record {
    log = λ kept m k.
        let old = st.stands.heads.log (coordinator_state st.step.durable) (coordinator_state (st.step.durable ++ st.step.staged)) knew in
        let state = coordinator_state (st.step.durable ++ st.step.staged) in
        let longer : length (state.log ++ w ∷ []) ≡ length state.log + 1 = length_push state.log w in
        ap end_of (knows_now kept m k).1 ∙ (let e : state.base + length (state.log ++ w ∷ []) ≡ length (now.machine.log ++ w ∷ []) = omega (arith, old, longer, length_push now.machine.log w) in e);
    kept = λ kept m k. ap end_of (knows_now kept m k).0 ∙ st.stands.heads.kept (coordinator_state st.step.durable) (coordinator_state (st.step.durable ++ st.step.staged)) knew;
    horizon = λ kept m k. ap (λ (c : CoordinatorState). c.horizon) (knows_now kept m k).0 ∙ st.stands.heads.horizon (coordinator_state st.step.durable) (coordinator_state (st.step.durable ++ st.step.staged)) knew;
    whole = λ d g is. subst (λ (l : List Record). Means store shards (now.machine.log ++ w ∷ []) now.machine.horizon l (at_shards (leaves left next))) (stages.all_of store shards left now next st.stands (Decision place w) st.step.durable st.step.staged st.step.was st.step.now st.step.shards d g is) whole_kept;
  }

  pub listed_kept : ListedStand store shards left next (with_write now.machine w)
  listed_kept t found lt is =
      let was = shard_left t found is in
      listed_means shards t now.machine.log w now.machine.horizon now.machine.horizon (shard_state found) (st.prepared t found lt was) (st.stands.listed t found lt was)

  pub locks_kept : LocksStand store shards left next
  locks_kept t found lt is = st.stands.locks t found lt (shard_left t found is)

  pub ids_kept : IdsStand store shards left next (with_write now.machine w)
  unfolding coordinator_step
  ids_kept = record {
    distinct = subst AreNew (sym st.step.open_writes) (new_without w.id now.nodes.open_writes st.stands.ids.distinct);
    few = subst (λ (l : List Entry). length l ≤ 1024) (sym st.step.open_writes) (few_still w.id now.nodes.open_writes 1024 st.stands.ids.few);
    unlisted = λ v is. let was = was_open v is in unlisted_longer v.id was.1 (st.stands.ids.unlisted v was.0);
    of_now = λ v is kept m knows.
        let was = st.stands.ids.of_now v (was_open v is).0 _ _ knew in
        (was.0 ∙ sym (same_epoch kept m knows), subst (λ (n : ℕ). v.id.number ≤ n) (sym st.step.given) was.1);
    log_given = λ v has. given_kept v.id (⊎_elim
        (λ old. st.stands.ids.log_given v old)
        (λ new. subst (λ (e : Entry). WasGiven shards left now.nodes e.id) new own_given)
        (Contains-push_cases now.machine.log w v has));
    prepares_given = λ t found v lt is has. given_kept v.id (st.stands.ids.prepares_given t found v lt (shard_left t found is) has);
  }
