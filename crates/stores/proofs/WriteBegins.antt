-- A write begins: its id is new, so what other flows hold stays right.
use Rattle.std.proofs.Common.{◌≡◌, ◌≢◌, inl, inr, ⊎_elim, ℕ, zero, suc, false, ◌<◌, ◌≤◌, ◌+◌, List, [], ◌∷◌, ◌++◌, Some, slice_get, slice_index_or, Contains, All, refl, sym, ◌∙◌, ap, subst, arith}
use Rattle.std.proofs.lemmas.List.Elements.{All-nil, Contains-append_right}
use Rattle.std.proofs.lemmas.Option.{none-some, same_Some}
use Rattle.stores.proofs.Words.{AreNew, Asked, CoordinatorKnows, CoordinatorState, Entry, Holds, IsBegin, IsOpen, IsRight, IsRightIntent, IsRightOwn, IsRightTicket, IsRightVerdict, IsRightVote, IsRightWrite, IsUnlisted, Moment, NodeName, Nodes, Record, Running, Stands, WasGiven, WriteHolds, WriteId, coordinator, find_in_doubt, id_of, leaves, own_write, replaced, shard, shard_state, to_write, up, with_intent, with_open, writing, staged_of}
use Rattle.records.specs.Coordinators.{coordinator_state}
use Rattle.replay.proofs.Doubts.{found_id}
use Rattle.stores.specs.FlowLaws.{WritesBegin}
use Rattle.stores.proofs.FlowBegins.{alone}
use Rattle.stores.proofs.DecisionNodes.{staged_epoch}
use Rattle.stores.proofs.FlowGoesOn.{flows_turn, sees_more}
use Rattle.stores.proofs.ShardStages.{durable_in}
use Rattle.stores.proofs.Frames.{KeepsStore, KeepsWrite, frame, given_on, own_given, same_doubts, same_knew, same_taken, verdict_on}
use Rattle.stores.proofs.ShardStagesStands.{contained_from}
use Rattle.holds.proofs.Named.{found_at}
use Rattle.tuples.proofs.Lists.{first_or_later}

-- Given a store, and a write whose id no id that was given is
module _ (store shards : ℕ) (left : NodeName → List Record → Type 0) (now : Moment) (w : Entry) (running : List Running) (fresh : (id : WriteId) → WasGiven shards left now.nodes id → id ≢ w.id) where
  abbrev nodes : Nodes
  nodes = with_open store shards left now.nodes w

  abbrev next : Moment
  next = record now { nodes = nodes; running = running }

  knew : (k m : CoordinatorState) → CoordinatorKnows nodes k m → CoordinatorKnows now.nodes k m
  knew k m c = record { durable = c.durable; staged = c.staged; is_up = c.is_up; durable_state = c.durable_state; replayed = c.replayed }

  was_open : (v : Entry) → WasGiven shards left now.nodes v.id → IsOpen nodes v → IsOpen now.nodes v
  was_open v given is = ⊎_elim (λ new. absurd (fresh v.id given (ap (λ (x : Entry). x.id) (sym new)))) (λ old. old) (first_or_later w v now.nodes.open_writes is)

  keeps : KeepsStore shards left left now next false
  keeps = record {
    kept = omega arith;
    horizon = omega arith;
    same_log = refl;
    listed = λ j v is. inl is;
    was_open = was_open;
    coordinator_knew = λ k m knows. inl (same_knew shards left left now next false refl (omega arith) (λ j v is. is) refl k m knows);
    given_out = λ id g. g.epoch;
    epochs = λ t epoch is. is;
    settled = λ t place is. is;
    taken = λ unopened. same_taken shards left left now next false refl (omega arith);
    named = λ x is. is;
  }

  keeps_write : (v : Entry) → KeepsWrite shards left left now next false false v
  keeps_write v = record {
    is_open = λ unopened. Contains-append_right (w ∷ []) now.nodes.open_writes v;
    unlisted = λ is. is;
    conditions = λ u here t found p lt is has hold. hold;
    doubts = same_doubts shards left left now next false (λ t. refl) (λ t rs is. is) v;
  }

  pub given_kept : (id : WriteId) → WasGiven shards left now.nodes id → WasGiven shards left nodes id
  given_kept = given_on shards left left now next false keeps

  verdict_kept : (id : WriteId) → IsRightVerdict shards left now id → IsRightVerdict shards left next id
  verdict_kept = verdict_on shards left left now next false keeps

  right_on : (r : Running) → IsRight shards left now r r.asked r.holds → IsRight shards left next r r.asked r.holds
  right_on r = frame shards left left now next false keeps r r.asked r.holds (λ v is. keeps_write v)

  -- the id of a flow was given
  flow_given : (r : Running) (asked : Asked) (holds : Holds) (id : WriteId) → IsRight shards left now r asked holds → id_of holds ≡ Some id → WasGiven shards left now.nodes id
  flow_given r (to_write changes conditions) (writing h) id k is = own_given shards left left now next false keeps r (own_write id changes conditions) h (k.own id is) k.same_decision
  flow_given r asked (writing h) id k is = absurd k
  flow_given r asked holds id k is = absurd (none-some _ is)

-- a write in doubt that is found is one of those in doubt
found_in : (id : WriteId) (ws : List Entry) (p : Entry) → find_in_doubt id ws ≡ Some p → Contains ws p
found_in id ws p is = let at = found_at id ws p is in contained_from ws at.0 p at.1

-- what a coordinator knows is one thing
pub one_memory : (all : Nodes) (k m k' m' : CoordinatorState) → CoordinatorKnows all k m → CoordinatorKnows all k' m' → m ≡ m'
one_memory all k m k' m' one two =
    let same : up one.durable one.staged ≡ up two.durable two.staged = sym one.is_up ∙ two.is_up in
    one.replayed ∙ ap (λ rs. coordinator_state (rs ++ one.staged)) (ap durable_in same) ∙ ap (λ rs. coordinator_state (two.durable ++ rs)) (ap staged_of same) ∙ sym two.replayed

-- A write begins at a store that stands.
module _ (store shards : ℕ) (left : NodeName → List Record → Type 0) (now : Moment) (r : Running) (h : WriteHolds) (w : Entry)
    (b : IsBegin store shards left now r h w) (st : Stands store shards left now) where
  fresh : (id : WriteId) → WasGiven shards left now.nodes id → id ≢ w.id
  fresh id given same = ⊎_elim
      (λ earlier. omega (arith, earlier, ap (λ (i : WriteId). i.epoch) same, b.epoch))
      (λ this. omega (arith, this.1, ap (λ (i : WriteId). i.number) same, b.number))
      (given.now b.kept b.memory b.knows)

  abbrev later : Running
  later = with_intent store shards left now r h w

  abbrev flows : List Running
  flows = replaced later now.running

  abbrev after : Moment
  after = record now { nodes = with_open store shards left now.nodes w; running = flows }

  unlisted : IsUnlisted w.id now.machine.log
  unlisted j v is same = fresh v.id (st.ids.log_given v (contained_from now.machine.log j v is)) (sym same)

  no_prepare : (s : ℕ) (found : List Record) (p : Entry) → s < shards → leaves left now.nodes (shard s) found → find_in_doubt w.id (shard_state found).in_doubt ≡ Some p → ⊥
  no_prepare s found p lt here is =
      fresh p.id (st.ids.prepares_given s found p lt here (found_in w.id (shard_state found).in_doubt p is)) (found_id w.id (shard_state found).in_doubt p is)

  w_given : WasGiven shards left (with_open store shards left now.nodes w) w.id
  w_given = record {
    epoch = λ found here.
        let known = b.knows in
        let durable = (st.nodes.durable coordinator known.durable known.staged found known.is_up).0 here in
        epoch_is found durable;
    now = λ k m knows. inr (b.epoch ∙ ap (λ (c : CoordinatorState). c.epoch) (same_memory k m (knew store shards left now w flows fresh k m knows)), omega (arith, b.number));
  }
    where
      same_memory : (k m : CoordinatorState) → CoordinatorKnows now.nodes k m → b.memory ≡ m
      same_memory k m c = one_memory now.nodes b.kept b.memory k m b.knows c

      epoch_is : (found : List Record) → found ≡ b.knows.durable → w.id.epoch ≤ (coordinator_state found).epoch
      epoch_is found is =
          let same : (coordinator_state (b.knows.durable ++ b.knows.staged)).epoch ≡ (coordinator_state b.knows.durable).epoch =
          staged_epoch b.knows.durable b.knows.staged (λ e x y z has. st.nodes.no_opening coordinator b.knows.durable b.knows.staged e x y z b.knows.is_up has) in
          let memory : b.memory.epoch ≡ (coordinator_state (b.knows.durable ++ b.knows.staged)).epoch = ap (λ (c : CoordinatorState). c.epoch) b.knows.replayed in
          let at_found : (coordinator_state found).epoch ≡ (coordinator_state b.knows.durable).epoch = ap (λ rs. (coordinator_state rs).epoch) is in
          omega (arith, b.epoch, memory, same, at_found)

  -- what the flow held before
  was_write : IsRightWrite shards left now r w.changes w.conditions h
  was_write = subst (λ x. IsRight shards left now r (to_write w.changes w.conditions) x) b.holds (subst (λ a. IsRight shards left now r a r.holds) b.asked (st.flows.held r b.running))

  -- what it holds now
  intent_right : IsRightIntent shards left after w (record { write = w; kept = now.machine.kept })
  intent_right = record {
    own = refl;
    kept = omega arith;
    opened = λ k m knows same. alone w now.nodes.open_writes;
    conditions = λ is s found p lt here has. absurd (no_prepare s found p lt here has);
  }

  own_right : IsRightOwn shards left after later w (record h { id = Some w.id; intent = Some (record { write = w; kept = now.machine.kept }) })
  own_right =
      let nothing = was_write.nothing b.unbegun in
      record {
        undecided = λ none. record { unlisted = unlisted; given = w_given; exact = λ s found p lt here has. absurd (no_prepare s found p lt here has) };
        intent = λ i is. (b.undecided, subst (IsRightIntent shards left after w) (same_Some _ i is) intent_right);
        tickets = subst (All (IsRightTicket shards left after w)) (sym nothing.tickets) (All-nil (IsRightTicket shards left after w));
        votes = subst (All (IsRightVote shards left after w)) (sym nothing.votes) (All-nil (IsRightVote shards left after w));
        decision = λ d is. absurd (none-some _ (sym nothing.decided ∙ is));
        verdict = λ id is. absurd (none-some _ (sym nothing.verdict ∙ is));
        not_reopened = λ i is not_since. alone w now.nodes.open_writes;
        gave = λ way none s found p lt here has. absurd (no_prepare s found p lt here has);
      }

  later_right : IsRight shards left after later later.asked later.holds
  later_right = subst (λ a. IsRight shards left after later a later.holds) (sym b.asked) (record {
    nothing = λ none. absurd (none-some _ (sym none));
    own = λ id is. subst (λ i. IsRightOwn shards left after later (own_write i w.changes w.conditions) (record h { id = Some w.id; intent = Some (record { write = w; kept = now.machine.kept }) })) (same_Some w.id id is) own_right;
    same_decision = was_write.same_decision;
    batch = was_write.batch;
    out = was_write.out;
    cancelled = was_write.cancelled;
    refused_or_cancelled = was_write.refused_or_cancelled;
  })

  -- a flow that stood there before has another write
  other_id : (j : ℕ) (x : Running) (id : WriteId) → slice_get now.running j ≡ Some x → id_of x.holds ≡ Some id → id_of later.holds ≡ Some id → ⊥
  other_id j x id is has same = fresh id (flow_given store shards left now w flows fresh x x.asked x.holds id (st.flows.held x (contained_from now.running j x is)) has) (sym (same_Some w.id id same))

  -- an open write has another id
  other_open : (v : Entry) → Contains now.nodes.open_writes v → v.id ≢ w.id
  other_open v has same =
      let is = st.ids.of_now v has b.kept b.memory b.knows in
      omega (arith, is.1, ap (λ (i : WriteId). i.number) same, b.number)

  distinct : AreNew (w ∷ now.nodes.open_writes)
  distinct zero zero u v is_u is_v same = refl
  distinct zero (suc j) u v is_u is_v same = absurd (other_open v (contained_from now.nodes.open_writes j v is_v) (sym same ∙ sym (ap (λ (x : Entry). x.id) (same_Some w u is_u))))
  distinct (suc i) zero u v is_u is_v same = absurd (other_open u (contained_from now.nodes.open_writes i u is_u) (same ∙ sym (ap (λ (x : Entry). x.id) (same_Some w v is_v))))
  distinct (suc i) (suc j) u v is_u is_v same = ap suc (st.ids.distinct i j u v is_u is_v same)

  stands_after : Stands store shards left after
  stands_after = record {
    rests = st.rests;
    nodes = record {
      durable = st.nodes.durable;
      no_opening = st.nodes.no_opening;
      coordinator_opened = λ k m knows. st.nodes.coordinator_opened k m (knew store shards left now w flows fresh k m knows);
      shard_opened = st.nodes.shard_opened;
      sound = st.nodes.sound;
    };
    heads = record {
      log = λ k m knows. st.heads.log k m (knew store shards left now w flows fresh k m knows);
      kept = λ k m knows. st.heads.kept k m (knew store shards left now w flows fresh k m knows);
      horizon = λ k m knows. st.heads.horizon k m (knew store shards left now w flows fresh k m knows);
      whole = st.heads.whole;
    };
    listed = st.listed;
    locks = st.locks;
    ids = record {
      distinct = distinct;
      few = omega (arith, b.room);
      unlisted = λ v has. ⊎_elim (λ new. subst (λ (x : Entry). IsUnlisted x.id now.machine.log) new unlisted) (λ old. st.ids.unlisted v old) (first_or_later w v now.nodes.open_writes has);
      of_now = λ v has k m knows.
          let known = knew store shards left now w flows fresh k m knows in
          ⊎_elim
          (λ new. subst (λ (x : Entry). (x.id.epoch ≡ m.epoch) × (x.id.number ≤ now.nodes.given + 1)) new
          (b.epoch ∙ ap (λ (c : CoordinatorState). c.epoch) (one_memory now.nodes b.kept b.memory k m b.knows known), omega (arith, b.number)))
          (λ old. let is = st.ids.of_now v old k m known in (is.0, omega (arith, is.1)))
          (first_or_later w v now.nodes.open_writes has);
      log_given = λ v has. given_kept store shards left now w flows fresh v.id (st.ids.log_given v has);
      prepares_given = λ s found v lt here has. given_kept store shards left now w flows fresh v.id (st.ids.prepares_given s found v lt here has);
    };
    flows = flows_turn store shards left left now after r later st.flows b.running refl (inr other_id) (omega arith) (omega arith)
        (sees_more now.machine now.machine now.machine r later refl (omega arith) (omega arith) (omega arith) (omega arith) (st.flows.seen r b.running)) (st.flows.quiet r b.running)
        (λ x has ne. right_on store shards left now w flows fresh x (st.flows.held x has)) later_right;
    told = λ j d lt. verdict_kept store shards left now w flows fresh (slice_index_or now.told j d) (st.told j d lt);
  }

pub writes_begin : (store shards : ℕ) (left : NodeName → List Record → Type 0) → WritesBegin store shards left
writes_begin store shards left now r h w b st = stands_after store shards left now r h w b st
