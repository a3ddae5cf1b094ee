-- A write is aborted: it is open no longer, and what flows hold stays right.
use Rattle.std.proofs.Common.{◌≡◌, ◌≢◌, inl, ℕ, List, Some, None, slice_get, slice_index_or, Contains, refl, sym, ◌∙◌, ap, subst, arith, false}
use Rattle.stores.proofs.Words.{CoordinatorKnows, CoordinatorState, Entry, IsOpen, IsRight, IsRightOwn, IsRightVerdict, IsRightWrite, IsUndecided, IsUndecidedFlow, Moment, NodeName, Nodes, Record, Running, Stands, WasGiven, WriteHolds, WriteId, id_of, of_without, own_write, replaced, with_closed, with_verdict, without, writing}
use Rattle.stores.specs.AbortLaws.{AbortsStand}
use Rattle.stores.proofs.FlowBegins.{same_verdict}
use Rattle.stores.proofs.Frames.{KeepsDoubts, KeepsStore, decision_on, frame, given_on, same_doubts, same_knew, same_taken, ticket_on, undecided_on, verdict_on, vote_on}
use Rattle.laws.proofs.Without.{few_still, new_without, other_without, stays_without}
use Rattle.stores.proofs.ShardStagesStands.{contained_at, contained_from}
use Rattle.stores.proofs.FlowGoesOn.{sees_more, flows_turn}

-- Given a store, and the id of a write that is closed
module _ (store shards : ℕ) (left : NodeName → List Record → Type 0) (now : Moment) (id : WriteId) where
  abbrev nodes : Nodes
  nodes = with_closed now.nodes id

  abbrev next : Moment
  next = record now { nodes = nodes }

  knew : (k m : CoordinatorState) → CoordinatorKnows nodes k m → CoordinatorKnows now.nodes k m
  knew k m c = record { durable = c.durable; staged = c.staged; is_up = c.is_up; durable_state = c.durable_state; replayed = c.replayed }

  was_open : (v : Entry) → IsOpen nodes v → IsOpen now.nodes v
  was_open v has =
      let at = contained_at (without id now.nodes.open_writes) v has in
      let old = of_without id now.nodes.open_writes at.0 v at.1 in
      contained_from now.nodes.open_writes old.0 v old.1

  keeps : KeepsStore shards left left now next false
  keeps = record {
    kept = omega arith;
    horizon = omega arith;
    same_log = refl;
    listed = λ j v is. inl is;
    was_open = λ v given. was_open v;
    coordinator_knew = λ k m knows. inl (same_knew shards left left now next false refl (omega arith) (λ j v is. is) refl k m knows);
    given_out = λ i g. g.epoch;
    epochs = λ t epoch is. is;
    settled = λ t place is. is;
    taken = λ unopened. same_taken shards left left now next false refl (omega arith);
    named = λ x is. is;
  }

  doubts : (v : Entry) → KeepsDoubts shards left left now next false false v
  doubts = same_doubts shards left left now next false (λ t. refl) (λ t rs is. is)

  given_kept : (i : WriteId) → WasGiven shards left now.nodes i → WasGiven shards left nodes i
  given_kept = given_on shards left left now next false keeps

  verdict_kept : (i : WriteId) → IsRightVerdict shards left now i → IsRightVerdict shards left next i
  verdict_kept = verdict_on shards left left now next false keeps

  -- what another flow holds stays right
  right_on : (x : Running) → id_of x.holds ≢ Some id → IsRight shards left now x x.asked x.holds → IsRight shards left next x x.asked x.holds
  right_on x ne = frame shards left left now next false keeps x x.asked x.holds (λ v is. record {
    is_open = λ unopened. stays_without id now.nodes.open_writes v (λ same. ne (is ∙ ap (λ (i : WriteId). Some i) same));
    unlisted = λ u. u;
    conditions = λ u here t found p lt left_there has hold. hold;
    doubts = doubts v;
  })

module _ (store shards : ℕ) (left : NodeName → List Record → Type 0) (now : Moment) (r : Running) (h : WriteHolds) (w : Entry) (st : Stands store shards left now) (own : IsUndecidedFlow now r h w) where
  right : IsRightWrite shards left now r w.changes w.conditions h
  right = subst (λ a. IsRight shards left now r a (writing h)) own.asked (subst (λ x. IsRight shards left now r r.asked x) own.holds (st.flows.held r own.running))

  own_undecided : IsUndecided shards left now w
  own_undecided = (right.own w.id own.id).undecided own.undecided

  -- no write with its id is open any more, and none is listed
  verdict : IsRightVerdict shards left (record now { nodes = with_closed now.nodes w.id }) w.id
  verdict = record {
    given = given_kept store shards left now w.id w.id own_undecided.given;
    closed = λ v here. other_without w.id now.nodes.open_writes v here;
    none = λ j v is above same. own_undecided.unlisted j v is same;
  }

  abbrev later : Running
  later = with_verdict now r h w

  same_ids : (i : WriteId) → h.id ≡ Some i → w.id ≡ i
  same_ids i is = let both : Some w.id ≡ Some i = sym own.id ∙ is in cc

  own_later : (i : WriteId) → w.id ≡ i → IsRightOwn shards left now r (own_write i w.changes w.conditions) h
      → IsRightOwn shards left (record now { nodes = with_closed now.nodes w.id }) later (own_write i w.changes w.conditions) (record h { intent = None; verdict = Some w.id })
  own_later i same k =
      let own_entry = own_write i w.changes w.conditions in
      let given = subst (WasGiven shards left now.nodes) same own_undecided.given in
      record {
        undecided = λ none. undecided_on shards left left now (record now { nodes = with_closed now.nodes w.id }) false (keeps store shards left now w.id) false own_entry given (λ u. u) (doubts store shards left now w.id own_entry) (k.undecided none);
        intent = λ x none. absurd cc;
        tickets = λ j d lt. ticket_on shards left left now (record now { nodes = with_closed now.nodes w.id }) false (keeps store shards left now w.id) false own_entry given (doubts store shards left now w.id own_entry) (slice_index_or h.tickets j d) (k.tickets j d lt);
        votes = λ j d lt. vote_on shards left left now (record now { nodes = with_closed now.nodes w.id }) false (keeps store shards left now w.id) false own_entry given (doubts store shards left now w.id own_entry) (slice_index_or h.votes j d) (k.votes j d lt);
        decision = λ d is. decision_on shards left left now (record now { nodes = with_closed now.nodes w.id }) false (keeps store shards left now w.id) own_entry d (k.decision d is);
        verdict = λ x is. let here : w.id ≡ x = cc in (sym here ∙ same, subst (IsRightVerdict shards left (record now { nodes = with_closed now.nodes w.id })) here verdict);
        not_reopened = λ x none. absurd cc;
        gave = k.gave;
      }

  later_right : IsRight shards left (record now { nodes = with_closed now.nodes w.id }) later later.asked later.holds
  later_right = subst (λ a. IsRight shards left (record now { nodes = with_closed now.nodes w.id }) later a later.holds) (sym own.asked) (record {
    nothing = λ none. let both : Some w.id ≡ None = sym own.id ∙ none in absurd cc;
    own = λ i is. own_later i (same_ids i is) (right.own i is);
    same_decision = right.same_decision;
    batch = right.batch;
    out = right.out;
    cancelled = right.cancelled;
    refused_or_cancelled = right.refused_or_cancelled;
  })

  others_right : (x : Running) → Contains now.running x → x.slot ≢ r.slot → IsRight shards left (record now { nodes = with_closed now.nodes w.id }) x x.asked x.holds
  others_right x has ne = right_on store shards left now w.id x
      (λ same.
      let at_x = contained_at now.running x has in
      let at_r = contained_at now.running r own.running in
      let one : at_x.0 ≡ at_r.0 = st.flows.ids at_x.0 at_r.0 x r w.id at_x.1 at_r.1 same (ap id_of own.holds ∙ own.id) in
      let both : Some x ≡ Some r = sym at_x.1 ∙ ap (slice_get now.running) one ∙ at_r.1 in
      let is : x ≡ r = cc in
      ne (ap (λ (y : Running). y.slot) is))
      (st.flows.held x has)

  aborted_stands : Stands store shards left (record now { nodes = with_closed now.nodes w.id; running = replaced later now.running })
  aborted_stands = record {
    rests = st.rests;
    nodes = record {
      durable = st.nodes.durable;
      no_opening = st.nodes.no_opening;
      coordinator_opened = λ k m knows. st.nodes.coordinator_opened k m (knew store shards left now w.id k m knows);
      shard_opened = st.nodes.shard_opened;
      sound = st.nodes.sound;
    };
    heads = record {
      log = λ k m knows. st.heads.log k m (knew store shards left now w.id k m knows);
      kept = λ k m knows. st.heads.kept k m (knew store shards left now w.id k m knows);
      horizon = λ k m knows. st.heads.horizon k m (knew store shards left now w.id k m knows);
      whole = st.heads.whole;
    };
    listed = st.listed;
    locks = st.locks;
    ids = record {
      distinct = new_without w.id now.nodes.open_writes st.ids.distinct;
      few = few_still w.id now.nodes.open_writes 1024 st.ids.few;
      unlisted = λ v has. st.ids.unlisted v (was_open store shards left now w.id v has);
      of_now = λ v has k m knows. st.ids.of_now v (was_open store shards left now w.id v has) k m (knew store shards left now w.id k m knows);
      log_given = λ v has. given_kept store shards left now w.id v.id (st.ids.log_given v has);
      prepares_given = λ s found v lt here has. given_kept store shards left now w.id v.id (st.ids.prepares_given s found v lt here has);
    };
    flows = flows_turn store shards left left now (record now { nodes = with_closed now.nodes w.id }) r later st.flows own.running refl (inl (sym (ap id_of own.holds))) (omega arith) (omega arith)
        (sees_more now.machine now.machine now.machine r later refl (omega arith) (omega arith) (omega arith) (omega arith) (st.flows.seen r own.running)) (λ no_write. st.flows.quiet r own.running no_write) others_right later_right;
    told = λ j d lt. same_verdict shards left (record now { nodes = with_closed now.nodes w.id }) (replaced later now.running) now.told now.named (slice_index_or now.told j d) (verdict_kept store shards left now w.id (slice_index_or now.told j d) (st.told j d lt));
  }

pub aborts_stand : (store shards : ℕ) (left : NodeName → List Record → Type 0) → AbortsStand store shards left
aborts_stand store shards left now r h w st own = (
  aborted_stands store shards left now r h w st own,
  same_verdict shards left (record now { nodes = with_closed now.nodes w.id }) (replaced (with_verdict now r h w) now.running) now.told now.named w.id (verdict store shards left now r h w st own),
)
