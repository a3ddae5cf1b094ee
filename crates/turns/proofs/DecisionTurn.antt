-- The flow that decides is put back: the store stands, and the step is a turn of a run.
use Rattle.std.proofs.Common.{◌≡◌, ◌≢◌, inl, ⊎_elim, ℕ, ◌+◌, ◌-◌, false, List, [], ◌∷◌, ◌++◌, length, Option, Some, None, slice_get, Contains, refl, sym, ◌∙◌, ap, subst, arith, true≢false, inr}
use Rattle.std.proofs.lemmas.Bool.{cases_Bool}
use Rattle.std.proofs.lemmas.List.{length_push}
use Rattle.std.proofs.lemmas.List.Elements.{All-contains}
use Rattle.stores.specs.DecidingLaws.{with_decided, with_place}
use Rattle.stores.proofs.FlowBegins.{same_verdict}
use Rattle.stores.proofs.DecisionFlows.{deciders_stand, decisions_stand}
use Rattle.stores.proofs.ShardStagesStands.{contained_at}
use Rattle.stores.proofs.FlowGoesOn.{sees_more, flows_turn}
use Rattle.turns.proofs.Words.{CoordinatorKnows, DecidedValue, Decides, Decision, Entry, IsDecider, IsDeciding, IsHorizonIn, IsRight, IsRightVerdict, IsRightWrite, MayDecide, Moment, NodeName, Nodes, Record, Running, SameBut, Stands, StandsButFor, Turns, WriteHolds, append, coordinator, coordinator_last, coordinator_node, coordinator_state, goes_on, id_of, is_write, onward, outward, replaced, shard, with_decision, with_write, writing}
use Rattle.turns.specs.DecisionTurns.{DecidersTurn}

module _ (store shards : ℕ) (left : NodeName → List Record → Type 0) (now : Moment) (next : Nodes) (place : ℕ) (w : Entry) (r : Running) (h : WriteHolds) (st : IsDeciding store shards left now next place w) (own : IsDecider store shards left now r h w) where
  knew : CoordinatorKnows now.nodes (coordinator_state st.step.durable) (coordinator_state (st.step.durable ++ st.step.staged))
  knew = record { durable = st.step.durable; staged = st.step.staged; is_up = st.step.was; durable_state = refl; replayed = refl }

  may : MayDecide (coordinator_state (st.step.durable ++ st.step.staged)) place w
  may = coordinator_last (coordinator_node store shards) (st.step.durable ++ st.step.staged) (Decision place w) st.image

  next_place : place ≡ length now.machine.log + 1
  next_place = may.next ∙ ap (λ k. k + 1) (st.stands.heads.log _ _ knew)

  right : IsRightWrite shards left now r w.changes w.conditions h
  right = subst (λ a. IsRight shards left now r a (writing h)) own.asked (subst (λ x. IsRight shards left now r r.asked x) own.holds (st.stands.flows.held r own.running))

  -- an open write is not listed, so the flow has not decided
  undecided : (o : Option DecidedValue) → r.decided ≡ o → o ≡ None
  undecided None is = refl
  undecided (Some d) is = absurd (
      let decision = (right.own w.id own.id).decision d (right.same_decision ∙ is) in
      let open_now = st.stands.ids.of_now w st.is_open _ _ knew in
      st.stands.ids.unlisted w st.is_open (d.place - 1) w (decision.there _ _ knew (sym open_now.0 ∙ sym decision.epoch)) refl)

  not_cancelled : r.is_cancelled ≡ false
  not_cancelled = ⊎_elim
      (λ yes. let out = right.cancelled yes (undecided r.decided refl) in let both : onward ≡ outward out.0 = sym own.onward_still ∙ out.1 in absurd cc)
      (λ no. no)
      (cases_Bool r.is_cancelled)

  not_told : Contains now.told w.id → ⊥
  not_told has = (All-contains (IsRightVerdict shards left now) now.told w.id st.stands.told has).closed w st.is_open refl

  abbrev d : DecidedValue
  d = record { place = length now.machine.log + 1; epoch = w.id.epoch }

  abbrev later : Running
  later = with_decided store shards left now r h w

  abbrev after : Moment
  after = record (with_decision now next w) { running = replaced later now.running }

  others : StandsButFor store shards left w.id (with_decision now next w)
  others = decisions_stand store shards left now next place w st

  -- seeing more changes nothing of what it holds
  later_right : IsRight shards left (with_decision now next w) later later.asked later.holds
  later_right =
      let stood = deciders_stand store shards left now next place w r h st right own.id own.onward_still next_place in
      let with_d : IsRightWrite shards left (with_decision now next w) (record r { decided = Some d }) w.changes w.conditions (with_place store shards left h d)
      = subst (λ (p : ℕ). IsRightWrite shards left (with_decision now next w) (record r { decided = Some (record { place = p; epoch = w.id.epoch }) }) w.changes w.conditions (with_place store shards left h (record { place = p; epoch = w.id.epoch }))) next_place stood in
      subst (λ a. IsRight shards left (with_decision now next w) later a later.holds) (sym own.asked) (record {
        nothing = with_d.nothing;
        own = λ id is. let o = with_d.own id is in record { undecided = o.undecided; intent = o.intent; tickets = o.tickets; votes = o.votes; decision = o.decision; verdict = o.verdict; not_reopened = o.not_reopened; gave = o.gave };
        same_decision = with_d.same_decision;
        batch = with_d.batch;
        out = with_d.out;
        cancelled = with_d.cancelled;
        refused_or_cancelled = with_d.refused_or_cancelled;
      })

  id_kept : id_of later.holds ≡ id_of r.holds
  id_kept = sym (ap id_of own.holds)

  -- a flow in another slot has another write
  others_right : (x : Running) → Contains now.running x → x.slot ≢ r.slot → IsRight shards left (with_decision now next w) x x.asked x.holds
  others_right x has ne = others.flows x has (λ same.
      let at_x = contained_at now.running x has in
      let at_r = contained_at now.running r own.running in
      let one : at_x.0 ≡ at_r.0 = st.stands.flows.ids at_x.0 at_r.0 x r w.id at_x.1 at_r.1 same (ap id_of own.holds ∙ own.id) in
      let both : Some x ≡ Some r = sym at_x.1 ∙ ap (slice_get now.running) one ∙ at_r.1 in
      let is : x ≡ r = cc in
      ne (ap (λ (y : Running). y.slot) is))

  decided_stands : Stands store shards left after
  decided_stands = record {
    rests = others.rests;
    nodes = others.nodes;
    heads = others.heads;
    listed = others.listed;
    locks = others.locks;
    ids = others.ids;
    flows = flows_turn store shards left left now (with_decision now next w) r later st.stands.flows own.running refl (inl id_kept) (omega arith) (omega arith)
        (sees_more now.machine (with_write now.machine w) (with_write now.machine w) r later refl (omega arith) (omega arith) (omega arith) (omega arith) (st.stands.flows.seen r own.running))
        (λ no_write. absurd (true≢false (ap is_write (sym own.asked) ∙ no_write))) others_right later_right;
    told = λ j e lt. same_verdict shards left (with_decision now next w) (replaced later now.running) now.told now.named _ (others.told j e lt);
  }

  same_but : SameBut coordinator now.nodes next
  same_but = record { others = λ n ne. unchanged n ne; open_writes = λ ne. absurd (ne refl); given = λ ne. absurd (ne refl) }
    where
      unchanged : (n : NodeName) → n ≢ coordinator → next.at n ≡ now.nodes.at n
      unchanged coordinator ne = absurd (ne refl)
      unchanged (shard t) ne = st.step.shards t

  module _ (found_before : ℕ → Type 0) where
    decides : Decides shards found_before now r (append w ∷ []) after later
    decides = record {
      write = w;
      own = own.asked;
      held = ap id_of own.holds ∙ own.id;
      first = undecided r.decided refl;
      not_cancelled = not_cancelled;
      not_told = not_told;
      moves_are = refl;
      decided = ap (λ (p : ℕ). Some (record { place = p; epoch = w.id.epoch })) (let e : length now.machine.log + 1 ≡ length (now.machine.log ++ w ∷ []) = omega (arith, length_push now.machine.log w) in e);
    }

    turns : Turns shards found_before now r (goes_on ∷ []) after
    turns = record {
      moves = append w ∷ [];
      machine = (with_write now.machine w, (others.rests.is_log, refl), refl);
      node = coordinator;
      others = same_but;
      called = inr (inl (record { durable = st.step.durable; staged = st.step.staged; next = Decision place w; was = st.step.was; now = st.step.now; no_opening = λ a b c d is. absurd cc }));
      later = later;
      open_writes = inr (inr (record { id = w.id; held = ap id_of own.holds ∙ own.id; open_writes = st.step.open_writes; given = st.step.given }));
      turned = record { slot = refl; asked = refl; same_id = λ id is. id_kept ∙ is; seen = refl; decides = inl decides; met = inl refl; cancelled = refl; reopened_is = refl };
      named = refl;
      tells = inl (not_cancelled, (goes_on, refl, (refl, refl)));
    }

pub deciders_turn : (store shards : ℕ) (left : NodeName → List Record → Type 0) → DecidersTurn store shards left
deciders_turn store shards left now next place w r h st own = (decided_stands store shards left now next place w r h st own, turns store shards left now next place w r h st own (IsHorizonIn store shards left now.nodes))
