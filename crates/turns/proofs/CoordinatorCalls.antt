-- What a coordinator that is up answers of its log is so of the machine.
use Rattle.std.proofs.Common.{◌≡◌, inl, inr, ⊎_elim, ◌+◌, ◌-◌, ◌≤◌, ◌<◌, ℕ, min, List, ◌++◌, length, drop, take, Contains, refl, sym, ◌∙◌, ap, subst, arith}
use Rattle.std.proofs.lemmas.List.{length-drop, length-take}
use Rattle.std.proofs.lemmas.List.Elements.{Contains-push}
use Rattle.turns.proofs.Words.{AreRightHeads, Asked, AsksAbove, AsksBelow, BatchValue, CoordinatorKnows, CoordinatorState, CoordinatorView, Entry, FindsAt, Freshness, Holds, IsBelow, IsFuture, IsGivenBy, IsResolved, IsRightBatch, IsRightVerdict, IsSeen, Means, Moment, NodeName, Nodes, Record, Running, Stands, WantsBelow, WasGiven, WasKept, WriteId, at_least, at_shards, committed, coordinator, coordinator_state, end_of, exact, heads_of, kept_of, latest, leaves, memory_of, staged_of, to_check, to_collect, to_flush, to_learn, to_raise, to_read, to_resolve, to_watch, to_write, up, with_call}
use Rattle.decisions.specs.Coordinators.{BatchesAt, FindsNone, IsGivenAt}
use Rattle.stores.specs.Causes.{WantsFuture}
use Rattle.turns.specs.CoordinatorSeamLaws.{BatchAnswers, BatchHasCause, DecisionsAreForgotten, GivesBelow, HeadsAnswer, HeadsHaveCause, InquiriesAnswer, PlacesAreFound}
use Rattle.stores.proofs.Answers.{batches_are_right, durable_means, heads_are_right, inquiries_abort, inquiries_find}
use Rattle.stores.proofs.DecisionNodes.{epoch_stays}
use Rattle.stores.proofs.FlowGoesOn.{sees_more}
use Rattle.stores.proofs.PrepareTurn.{map_has}
use Rattle.stores.proofs.ShardStages.{durable_in}
use Rattle.records.proofs.CoordinatorStates.{state_of_more}

-- a node that is up with these records is not so with others
pub known_alone : (nodes : Nodes) (durable staged : List Record) → nodes.at coordinator ≡ up durable staged → (kept memory : CoordinatorState) → CoordinatorKnows nodes kept memory
    → (kept ≡ coordinator_state durable) × (memory ≡ coordinator_state (durable ++ staged))
known_alone nodes durable staged is kept memory k =
    let both : up k.durable k.staged ≡ up durable staged = sym k.is_up ∙ is in (
      k.durable_state ∙ ap coordinator_state (ap durable_in both),
      k.replayed ∙ ap (λ (l : List Record). coordinator_state (l ++ k.staged)) (ap durable_in both) ∙ ap (λ (l : List Record). coordinator_state (durable ++ l)) (ap staged_of both),
    )

module _ (store shards : ℕ) (left : NodeName → List Record → Type 0) {D : Type 0} (now : Moment) (v : CoordinatorView D) (st : Stands store shards left now) (seen : IsSeen now.nodes v) where
  pub knows : CoordinatorKnows now.nodes (kept_of v) (memory_of v)
  knows = record { durable = v.durable; staged = v.staged; is_up = seen.at; durable_state = refl; replayed = refl }

  pub log_is : end_of (memory_of v) ≡ length now.machine.log
  log_is = st.heads.log (kept_of v) (memory_of v) knows

  pub kept_is : end_of (kept_of v) ≡ now.machine.kept
  kept_is = st.heads.kept (kept_of v) (memory_of v) knows

  pub horizon_is : (kept_of v).horizon ≡ now.machine.horizon
  horizon_is = st.heads.horizon (kept_of v) (memory_of v) knows

  pub whole : Means store shards now.machine.log now.machine.horizon (v.durable ++ v.staged) (at_shards (leaves left now.nodes))
  whole = st.heads.whole v.durable v.staged seen.at

  -- no staged record is an opening
  pub same_epoch : (memory_of v).epoch ≡ (kept_of v).epoch
  same_epoch = ap (λ (c : CoordinatorState). c.epoch) (state_of_more v.durable v.staged) ∙ epoch_stays (kept_of v) v.staged (λ a b c d has. st.nodes.no_opening coordinator v.durable v.staged a b c d seen.at has)

  -- a flow that has seen the machine once more has seen what lies at or below it
  pub right_heads : (r : Running) (holds : Holds) → Contains now.running r → AreRightHeads (with_call r holds r.met now.machine) now.machine (heads_of v)
  right_heads r holds running = heads_are_right store shards left now (with_call r holds r.met now.machine) (kept_of v) (memory_of v) (heads_of v) st knows (Contains-push r.seen now.machine)
      (sees_more now.machine now.machine now.machine r (with_call r holds r.met now.machine) refl (omega arith) (omega arith) (omega arith) (omega arith) (st.flows.seen r running)) refl refl

  pub above : (asked : Asked) → AsksAbove (heads_of v) asked → IsFuture now.machine asked
  above (to_write changes conditions) is = absurd is
  above (to_read fresh sets) is = subst (λ (n : ℕ). WantsFuture n fresh) log_is is
  above (to_check fresh x u) is = subst (λ (n : ℕ). WantsFuture n fresh) log_is is
  above (to_watch c limit names) is = subst (λ (n : ℕ). n < c) log_is is
  above (to_flush n) is = absurd is
  above (to_learn s) is = absurd is
  above (to_resolve s) is = absurd is
  above (to_raise x) is = subst (λ (n : ℕ). n < x) kept_is is
  above (to_collect s) is = absurd is

  gives_below : (r : Running) (fresh : Freshness) → GivesBelow (heads_of v) fresh → WantsBelow now.machine.horizon r fresh
  gives_below r latest is = absurd is
  gives_below r (at_least z) is = absurd is
  gives_below r (exact z) is = subst (λ (n : ℕ). z < n) horizon_is is

  pub below : (r : Running) (asked : Asked) → AsksBelow (heads_of v) asked → IsBelow now.machine.horizon r asked
  below r (to_write changes conditions) is = absurd is
  below r (to_read fresh sets) is = gives_below r fresh is
  below r (to_check fresh x u) is = gives_below r fresh is
  below r (to_watch c limit names) is = subst (λ (n : ℕ). c < n) horizon_is is
  below r (to_flush n) is = absurd is
  below r (to_learn s) is = absurd is
  below r (to_resolve s) is = absurd is
  below r (to_raise x) is = absurd is
  below r (to_collect s) is = absurd is

  pub batch_right : (from to : ℕ) (b : BatchValue) → from ≤ to → BatchesAt v from to b → IsRightBatch now.machine b × (length b.writes ≡ min (to - from) 256)
  batch_right from to b ordered batch = (
    batches_are_right store shards left now (kept_of v) (memory_of v) b (min (to - from) 256) st knows
        (omega (arith, based, batch.above, batch.from_is))
        (omega (arith, batch.from_is, batch.within, ordered))
        (batch.writes ∙ ap (λ (n : ℕ). take (min (to - from) 256) (drop (n - (kept_of v).base) (kept_of v).log)) (sym batch.from_is)),
    size,
  )
    where
      based : (kept_of v).base ≤ (kept_of v).horizon
      based = (durable_means store shards left now (kept_of v) (memory_of v) st knows).base

      size : length b.writes ≡ min (to - from) 256
      size =
          let rest = drop (from - (kept_of v).base) (kept_of v).log in
          let taken : length b.writes ≡ min (min (to - from) 256) (length rest) = ap length batch.writes ∙ length-take (min (to - from) 256) rest in
          let left_over : length rest ≡ length (kept_of v).log - (from - (kept_of v).base) = length-drop (from - (kept_of v).base) (kept_of v).log in
          let high : to ≤ (kept_of v).base + length (kept_of v).log = batch.within in
          let low : (kept_of v).base ≤ from = omega (arith, based, batch.above) in
          omega (arith, taken, left_over, high, low, ordered)

  given_on : (id : WriteId) → IsGivenAt v id → IsGivenBy now.nodes (memory_of v) id
  given_on id given = ⊎_elim (λ earlier. inl earlier) (λ of_now. inr (of_now.0, subst (λ (n : ℕ). id.number ≤ n) (sym seen.given) of_now.1)) given

  pub was_given : (id : WriteId) → IsGivenAt v id → WasGiven shards left now.nodes id
  was_given id given = record {
    epoch = λ found is.
        let same : found ≡ v.durable = (st.nodes.durable coordinator v.durable v.staged found seen.at).0 is in
        subst (λ (rs : List Record). id.epoch ≤ (coordinator_state rs).epoch) (sym same) (let e = same_epoch in ⊎_elim (λ (earlier : id.epoch < (memory_of v).epoch). omega (arith, earlier, e)) (λ of_now. omega (arith, of_now.0, e)) given);
    now = λ kept memory k. subst (λ (m : CoordinatorState). IsGivenBy now.nodes m id) (sym (known_alone now.nodes v.durable v.staged seen.at kept memory k).1) (given_on id given);
  }

  pub finds_place : (id : WriteId) (place : ℕ) → FindsAt v id place → IsResolved now.machine (committed id place)
  finds_place id place finds = subst (λ (p : ℕ). IsResolved now.machine (committed id p)) (sym finds.place_is) (subst (λ (i : WriteId). IsResolved now.machine (committed i ((kept_of v).base + finds.index + 1))) finds.own
      (inquiries_find store shards left now (kept_of v) (memory_of v) finds.index finds.write st knows finds.there))

  pub finds_none : (id : WriteId) → FindsNone v id → IsRightVerdict shards left now id
  finds_none id finds = inquiries_abort store shards left now (kept_of v) (memory_of v) id st (record {
    knows = knows;
    closed = λ w is same. finds.closed (subst (Contains v.open_ids) same (subst (λ (ids : List WriteId). Contains ids w.id) seen.open_writes (map_has (λ (x : Entry). x.id) now.nodes.open_writes w is)));
    none = λ j w is above same. finds.none (j, w, is, same, above);
  }) (was_given id finds.given)

pub heads_answer : (store shards : ℕ) (left : NodeName → List Record → Type 0) (D : Type 0) → HeadsAnswer store shards left D
heads_answer store shards left D now v r holds st seen running = (
  log_is store shards left now v st seen,
  kept_is store shards left now v st seen,
  horizon_is store shards left now v st seen,
  right_heads store shards left now v st seen r holds running,
)

pub heads_have_cause : (store shards : ℕ) (left : NodeName → List Record → Type 0) (D : Type 0) → HeadsHaveCause store shards left D
heads_have_cause store shards left D now after v r st seen = (above store shards left now v st seen r.asked, below store shards left now v st seen r r.asked)

pub batch_answers : (store shards : ℕ) (left : NodeName → List Record → Type 0) (D : Type 0) → BatchAnswers store shards left D
batch_answers store shards left D now v from to b st seen ordered batch = batch_right store shards left now v st seen from to b ordered batch

pub batch_has_cause : (store shards : ℕ) (left : NodeName → List Record → Type 0) (D : Type 0) → BatchHasCause store shards left D
batch_has_cause store shards left D now after v r from to st seen = (
  λ low high. let same = kept_is store shards left now v st seen in omega (arith, low, high, same),
  λ limit names asked low. subst (IsBelow now.machine.horizon r) (sym asked) (subst (λ (n : ℕ). from < n) (horizon_is store shards left now v st seen) low),
)

pub inquiries_answer : (store shards : ℕ) (left : NodeName → List Record → Type 0) (D : Type 0) → InquiriesAnswer store shards left D
inquiries_answer store shards left D now v id st seen = (finds_place store shards left now v st seen id, finds_none store shards left now v st seen id)

pub decisions_are_forgotten : (store shards : ℕ) (left : NodeName → List Record → Type 0) (D : Type 0) → DecisionsAreForgotten store shards left D
decisions_are_forgotten store shards left D nodes v d seen up_now other kept memory k same =
    other (record { is_up = up_now; epoch = same ∙ ap (λ (c : CoordinatorState). c.epoch) (known_alone nodes v.durable v.staged seen.at kept memory k).1 })

pub places_are_found : PlacesAreFound
places_are_found now r latest v place right is = record {
  wanted = subst (WasKept r) (sym is) right.was;
  kept = omega (arith, right.kept, is);
  above = λ first saw. let low = right.above first saw in omega (arith, low, right.ordered, is);
}
places_are_found now r (at_least z) v place right is = record {
  wanted = (subst (WasKept r) (sym is.0) right.was, is.1);
  kept = omega (arith, right.kept, is.0);
  above = λ first saw. let low = right.above first saw in omega (arith, low, right.ordered, is.0);
}
places_are_found now r (exact z) v place right is = record {
  wanted = (is.0, (v.kept, right.was, omega (arith, is.0, is.1)));
  kept = omega (arith, right.kept, is.0, is.1);
  above = λ first saw. let low = right.above first saw in omega (arith, low, is.0, is.2);
}
