-- What the coordinator answers of a write: that it is not found, its place, or that its flow's decision is kept.
use Rattle.std.proofs.Common.{◌≡◌, inl, inr, ℕ, ◌≤◌, ◌<◌, Contains, ◌+◌, ◌-◌, min, List, [], ◌∷◌, ◌++◌, length, take, drop, Option, Some, None, slice_get, refl, sym, ◌∙◌, ap, subst, arith, append_assoc}
use Rattle.std.proofs.lemmas.List.{drop-drop, drop-take, length-drop, length-take, length-take-le, take-take, take_all}
use Rattle.std.proofs.lemmas.Option.{slice_get_within}
use Rattle.stores.proofs.Words.{AreRightHeads, BatchValue, CoordinatorKnows, CoordinatorState, Decision, Dropped, Entry, Epoch, HasSeenBelow, HeadsValue, Horizon, IsResolved, IsRight, IsRightBatch, IsRightDecision, IsRightWrite, IsWriteAnswer, Learned, Means, Moment, NodeName, Prepare, Record, Running, Stands, WriteId, at_shards, committed, coordinator, end_is_length, end_of, id_of, leaves, own_write, slice_get_drop, slice_get_taken, writing}
use Rattle.records.specs.Coordinators.{BeginsCoordinatorImage, IsCoordinatorImage, MayComeNext, MayFollowNext, coordinator_state, coordinator_step}
use Rattle.records.specs.Inside.{MayBegin, inside_of}
use Rattle.records.specs.Replays.{Identity}
use Rattle.records.specs.declared.mark.Inside.{Inside}
use Rattle.records.specs.declared.mark.Mark.TheVariants.{Begins}
use Rattle.records.specs.declared.record.Record.TheVariants.{Checkpoint}
use Rattle.records.proofs.CoordinatorStates.{coordinator_image_push, coordinator_push}
use Rattle.laws.specs.Worlds.{coordinator_node}
use Rattle.std.proofs.lemmas.List.{append-nil}
use Rattle.stores.specs.AbortLaws.{InquiriesAbort, InquiriesFind, OutcomesAgree}
use Rattle.stores.specs.HeadsLaws.{BatchesAreRight, HeadsAreRight}
use Rattle.laws.specs.Coordinators.{CoordinatorMeans}
use Rattle.stores.proofs.ShardStagesStands.{contained_from}

-- a checkpoint begins at a node that was not opened
begins_unopened : (epoch : ℕ) (r : Record) → MayBegin epoch r → epoch ≡ 0
begins_unopened epoch (Checkpoint (Begins generation)) may = may.unopened
begins_unopened epoch _ may = absurd may

-- what comes outside of a checkpoint leaves the base, and a coordinator that is opened
base_next : (me : Identity) (s : CoordinatorState) (r : Record) → MayComeNext me s r → (coordinator_step s r).base ≡ s.base
unfolding coordinator_step
base_next me s (Prepare w) may = refl
base_next me s (Learned to placed_ids) may = refl
base_next me s (Dropped id) may = refl
base_next me s (Epoch e f g h) may = refl
base_next me s (Decision place w) may = refl
base_next me s (Horizon place) may = refl
base_next me s (Checkpoint mark) may = absurd may

opened_next : (me : Identity) (s : CoordinatorState) (r : Record) → 1 ≤ s.epoch → MayComeNext me s r → 1 ≤ (coordinator_step s r).epoch
unfolding coordinator_step
opened_next me s (Prepare w) some may = some
opened_next me s (Learned to placed_ids) some may = some
opened_next me s (Dropped id) some may = some
opened_next me s (Epoch e f g h) some may = let next = may.next in omega (arith, next)
opened_next me s (Decision place w) some may = some
opened_next me s (Horizon place) some may = some
opened_next me s (Checkpoint mark) some may = absurd may

comes_next : (me : Identity) (i : Option Inside) (s : CoordinatorState) (r : Record) → i ≡ None → 1 ≤ s.epoch → MayFollowNext me i s r → MayComeNext me s r
comes_next me None s r outside some (inl may) = may
comes_next me None s r outside some (inr begins) = let none = begins_unopened s.epoch r begins in absurd (omega (arith, none, some))
comes_next me (Some i) s r outside some may = absurd cc

-- so no record after those of a coordinator that was opened changes the base
base_behind : (me : Identity) (before rs : List Record) → IsCoordinatorImage me before → 1 ≤ (coordinator_state before).epoch → BeginsCoordinatorImage me (before ++ rs)
    → (coordinator_state (before ++ rs)).base ≡ (coordinator_state before).base
base_behind me before [] was some all = ap (λ (l : List Record). (coordinator_state l).base) (append-nil before)
base_behind me before (r ∷ rs) was some all =
    let s = coordinator_state before in
    let whole : (before ++ r ∷ []) ++ rs ≡ before ++ r ∷ rs = append_assoc before (r ∷ []) rs in
    let may = comes_next me (inside_of before) s r was.whole some (all before rs r refl) in
    let stepped = coordinator_push before r in
    let opened : 1 ≤ (coordinator_state (before ++ r ∷ [])).epoch = subst (λ (c : CoordinatorState). 1 ≤ c.epoch) (sym stepped) (opened_next me s r some may) in
    ap (λ (l : List Record). (coordinator_state l).base) (sym whole)
    ∙ base_behind me (before ++ r ∷ []) rs (coordinator_image_push me before r was may) opened (subst (BeginsCoordinatorImage me) (sym whole) all)
    ∙ ap (λ (c : CoordinatorState). c.base) stepped
    ∙ base_next me s r may

-- what is after a place is at its place in the list
of_drop : {X : Type 0} (k : ℕ) (xs : List X) (j : ℕ) (x : X) → slice_get (drop k xs) j ≡ Some x → slice_get xs (k + j) ≡ Some x
of_drop k xs j x is = sym (slice_get_drop k xs j) ∙ is

module _ (store shards : ℕ) (left : NodeName → List Record → Type 0) (now : Moment) (kept memory : CoordinatorState) (st : Stands store shards left now) (knows : CoordinatorKnows now.nodes kept memory) where
  whole : Means store shards now.machine.log now.machine.horizon (knows.durable ++ knows.staged) (at_shards (leaves left now.nodes))
  whole = st.heads.whole knows.durable knows.staged knows.is_up

  -- what the coordinator knows is the log after its base
  known : memory.log ≡ drop memory.base now.machine.log
  known = subst (λ (c : CoordinatorState). c.log ≡ drop c.base now.machine.log) (sym knows.replayed) whole.decided.decisions

  durable_there : leaves left now.nodes coordinator knows.durable
  durable_there = (knows.durable, (st.nodes.durable coordinator knows.durable knows.staged knows.durable knows.is_up).1 refl, inl refl)

  -- no staged record changes the base
  same_base : memory.base ≡ kept.base
  same_base =
      let was = st.rests.each knows.durable durable_there in
      ap (λ (c : CoordinatorState). c.base) knows.replayed
      ∙ base_behind (coordinator_node store shards) knows.durable knows.staged was.3.image (subst (λ (c : CoordinatorState). 1 ≤ c.epoch) knows.durable_state (st.nodes.coordinator_opened kept memory knows)) whole.image.each
      ∙ ap (λ (c : CoordinatorState). c.base) (sym knows.durable_state)

  -- what is durable means the log up to the kept place
  pub durable_means : CoordinatorMeans (take now.machine.kept now.machine.log) now.machine.horizon kept
  durable_means =
      let was = st.rests.each knows.durable durable_there in
      let means : CoordinatorMeans (take was.0 now.machine.log) now.machine.horizon kept = subst (CoordinatorMeans (take was.0 now.machine.log) now.machine.horizon) (sym knows.durable_state) was.3.decided in
      let size = end_is_length (take was.0 now.machine.log) now.machine.horizon kept means ∙ length-take-le was.0 now.machine.log was.2 in
      subst (λ (n : ℕ). CoordinatorMeans (take n now.machine.log) now.machine.horizon kept) (sym size ∙ st.heads.kept kept memory knows) means

  -- a durable decision is one of the log
  durable_listed : (j : ℕ) (w : Entry) → slice_get kept.log j ≡ Some w → slice_get now.machine.log (kept.base + j) ≡ Some w
  durable_listed j w is =
      slice_get_taken now.machine.kept now.machine.log (kept.base + j) w
      (of_drop kept.base (take now.machine.kept now.machine.log) j w (ap (λ (l : List Entry). slice_get l j) (sym durable_means.decisions) ∙ is))

  batch : (b : BatchValue) (most : ℕ) → kept.base ≤ b.from → b.from ≤ end_of kept → b.writes ≡ take most (drop (b.from - kept.base) kept.log) → IsRightBatch now.machine b
  batch b most above low is =
      let end : end_of kept ≡ now.machine.kept = st.heads.kept kept memory knows in
      let k = now.machine.kept in
      let l = length b.writes in
      let all = take k now.machine.log in
      let behind : drop (b.from - kept.base) kept.log ≡ drop b.from all =
      ap (drop (b.from - kept.base)) durable_means.decisions ∙ drop-drop (b.from - kept.base) kept.base all ∙ ap (λ (i : ℕ). drop i all) (let e : kept.base + (b.from - kept.base) ≡ b.from = omega (arith, above) in e) in
      let whole : b.writes ≡ take most (drop b.from (take k now.machine.log)) = is ∙ ap (take most) behind in
      let size : l ≡ min most (length (drop b.from (take k now.machine.log))) = ap length whole ∙ length-take most (drop b.from (take k now.machine.log)) in
      let rest : length (drop b.from (take k now.machine.log)) ≡ k - b.from = length-drop b.from (take k now.machine.log) ∙ ap (λ (i : ℕ). i - b.from) (length-take-le k now.machine.log st.rests.within) in
      let few : l ≤ k - b.from = omega (arith, size, rest) in
      let fewer : l ≤ most = omega (arith, size) in
      let reach : b.from + l ≤ k = omega (arith, few, low, end) in
      record {
        kept = omega (arith, low, end);
        within = few;
        writes =
            sym (take_all l b.writes (omega arith))
            ∙ ap (take l) whole
            ∙ take-take l most (drop b.from (take k now.machine.log)) fewer
            ∙ sym (drop-take b.from l (take k now.machine.log))
            ∙ ap (drop b.from) (take-take (b.from + l) k now.machine.log reach)
            ∙ drop-take b.from l now.machine.log;
      }

  heads_right : (r : Running) (heads : HeadsValue) → Contains r.seen now.machine → HasSeenBelow now.machine r → heads.kept ≡ end_of kept → heads.horizon ≡ kept.horizon → AreRightHeads r now.machine heads
  heads_right r heads seen below is_kept is_horizon =
      let end : end_of kept ≡ now.machine.kept = st.heads.kept kept memory knows in
      let low : kept.horizon ≡ now.machine.horizon = st.heads.horizon kept memory knows in
      let under = st.rests.horizon in
      record {
        was = (now.machine, seen, sym (is_kept ∙ end));
        kept = omega (arith, is_kept, end);
        horizon = omega (arith, is_horizon, low);
        ordered = omega (arith, is_kept, end, is_horizon, low, under);
        above = λ first is. let saw = below first (contained_from r.seen 0 first is) in omega (arith, saw.1, is_horizon, low);
      }

  found : (j : ℕ) (w : Entry) → slice_get kept.log j ≡ Some w → IsResolved now.machine (committed w.id (kept.base + j + 1))
  found j w is =
      let lt : j < length kept.log = slice_get_within kept.log j w is in
      let end : end_of kept ≡ now.machine.kept = st.heads.kept kept memory knows in
      let at : kept.base + j + 1 - 1 ≡ kept.base + j = omega arith in
      (w, omega arith, omega (arith, lt, end), ap (slice_get now.machine.log) at ∙ durable_listed j w is, refl)

  -- a place of the log above the horizon is one that the coordinator knows
  known_above : (i : ℕ) (w : Entry) → slice_get now.machine.log i ≡ Some w → now.machine.horizon ≤ i → (j : ℕ) × (slice_get memory.log j ≡ Some w) × (kept.horizon < memory.base + j + 1)
  known_above i w is above =
      let same = same_base in
      let below = durable_means.base in
      let horizon = st.heads.horizon kept memory knows in
      let whole_i : memory.base + (i - memory.base) ≡ i = omega (arith, same, below, horizon, above) in (
        i - memory.base,
        ap (λ (l : List Entry). slice_get l (i - memory.base)) known ∙ slice_get_drop memory.base now.machine.log (i - memory.base) ∙ ap (slice_get now.machine.log) whole_i ∙ is,
        omega (arith, whole_i, horizon, above),
      )

pub inquiries_abort : (store shards : ℕ) (left : NodeName → List Record → Type 0) → InquiriesAbort store shards left
inquiries_abort store shards left now kept memory id st not_found given = record {
  given = given;
  closed = not_found.closed;
  none = λ i w is above same.
      let known = known_above store shards left now kept memory st not_found.knows i w is above in
      not_found.none known.0 w known.1 known.2 (sym same);
}

pub inquiries_find : (store shards : ℕ) (left : NodeName → List Record → Type 0) → InquiriesFind store shards left
inquiries_find store shards left now kept memory j w st knows is = found store shards left now kept memory st knows j w is

pub outcomes_agree : (store shards : ℕ) (left : NodeName → List Record → Type 0) → OutcomesAgree store shards left
outcomes_agree store shards left now r later h changes conditions d st out same same_id = by_id h.id refl
  where
    right : IsRightWrite shards left now r changes conditions h
    right = subst (λ a. IsRight shards left now r a (writing h)) out.asked (subst (λ x. IsRight shards left now r r.asked x) out.holds (st.flows.held r out.running))

    by_id : (o : Option WriteId) → h.id ≡ o → IsWriteAnswer later now.machine changes conditions d.place
    by_id None none = let both : Some d ≡ None = sym out.decided ∙ (right.nothing none).decided in absurd cc
    by_id (Some id) is =
        let decision : IsRightDecision shards left now (own_write id changes conditions) d = (right.own id is).decision d out.decided in
        let end : end_of out.kept ≡ now.machine.kept = st.heads.kept out.kept out.memory out.knows in
        record {
          epoch = d.epoch;
          decided = same ∙ sym right.same_decision ∙ out.decided;
          id = id;
          held = same_id ∙ ap id_of out.holds ∙ is;
          kept = omega (arith, out.reached, end);
          listed_there = record { counted = decision.counted; there = decision.there out.kept out.memory out.knows out.epoch };
        }

pub heads_are_right : (store shards : ℕ) (left : NodeName → List Record → Type 0) → HeadsAreRight store shards left
heads_are_right store shards left now r kept memory heads st knows seen below is_kept is_horizon = heads_right store shards left now kept memory st knows r heads seen below is_kept is_horizon

pub batches_are_right : (store shards : ℕ) (left : NodeName → List Record → Type 0) → BatchesAreRight store shards left
batches_are_right store shards left now kept memory b most st knows above low is = batch store shards left now kept memory st knows b most above low is
