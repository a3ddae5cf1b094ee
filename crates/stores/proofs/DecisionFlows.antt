-- The coordinator of a store that stands stages a decision: what the other flows hold stays right.
use Rattle.std.proofs.Common.{◌≡◌, ◌≢◌, inl, ⊎_elim, ℕ, ◌-◌, ◌<◌, true, false, List, [], ◌∷◌, ◌++◌, length, Option, Some, None, Contains, refl, sym, ◌∙◌, ap, subst, arith, slice_get, cond}
use Rattle.std.proofs.lemmas.Bool.{cases_Bool, both_ways}
use Rattle.std.proofs.lemmas.List.Elements.{All-contains, All-nil}
use Rattle.stores.proofs.Words.{DecidedValue, Entry, HoldAfter, IsDeciding, IsPreparedInAll, IsRightDecision, IsRightOwn, IsRightVote, Moment, NodeName, Nodes, Record, StandsButFor, WasGiven, WriteId, at_shards, find_in_doubt, leaves, onward, outward, own_write, part, shard, shard_state, takes_part, with_decision}
use Rattle.tuples.specs.Parts.{expected}
use Rattle.tuples.proofs.Lists.{slice_get_last}
use Rattle.stores.specs.DecidingLaws.{DecidersStand, DecisionsStand, VotesPrepare}
use Rattle.laws.proofs.WriteConditions.{conditions_hold_by_parts, decisions_leave_conditions}
use Rattle.laws.proofs.Without.{stays_without}
use Rattle.stores.proofs.Frames.{KeepsWrite, batch_on, frame, same_doubts, ticket_on}
use Rattle.stores.proofs.DecisionNodes.{keeps, given_kept, heads_kept, ids_kept, listed_kept, locks_kept, nodes_kept, own_given, rests_kept, unlisted_longer, verdict_kept}

module _ (store shards : ℕ) (left : NodeName → List Record → Type 0) (now : Moment) (next : Nodes) (place : ℕ) (w : Entry) (st : IsDeciding store shards left now next place w) where
  -- of another write: its conditions still hold, since no write in doubt shares a tuple with this one
  keeps_write : (v : Entry) → v.id ≢ w.id → KeepsWrite shards left left now (with_decision now next w) false false v
  keeps_write v ne = record {
    is_open = λ unopened here. subst (λ (l : List Entry). Contains l v) (sym st.step.open_writes) (stays_without w.id now.nodes.open_writes v ne here);
    unlisted = unlisted_longer store shards left now next place w st v.id ne;
    conditions = λ u here t found p lt is has hold.
        let exact = u.exact t found p lt is has in
        let as_part : HoldAfter now.machine.log (part shards t v).conditions = subst (λ (q : Entry). HoldAfter now.machine.log q.conditions) exact.1 hold in
        let longer = decisions_leave_conditions shards t now.machine.log v w (shard_state found).in_doubt (st.stands.locks t found lt is) ne (st.prepared t found lt is) (has ∙ ap (λ (q : Entry). Some q) exact.1) as_part in
        subst (λ (q : Entry). HoldAfter (now.machine.log ++ w ∷ []) q.conditions) (sym exact.1) longer;
    doubts = same_doubts shards left left now (with_decision now next w) false st.step.shards (λ t rs is. is) v;
  }

  stands_but_for : StandsButFor store shards left w.id (with_decision now next w)
  stands_but_for = record {
    rests = rests_kept store shards left now next place w st;
    nodes = nodes_kept store shards left now next place w st;
    heads = heads_kept store shards left now next place w st;
    listed = listed_kept store shards left now next place w st;
    locks = locks_kept store shards left now next place w st;
    ids = ids_kept store shards left now next place w st;
    flows = λ f there ne. frame shards left left now (with_decision now next w) false (keeps store shards left now next place w st) f f.asked f.holds (λ v is. keeps_write v (λ same. ne (is ∙ ap (λ (i : WriteId). Some i) same))) (st.stands.flows.held f there);
    told = λ j d lt. verdict_kept store shards left now next place w st _ (st.stands.told j d lt);
  }

pub decisions_stand : (store shards : ℕ) (left : NodeName → List Record → Type 0) → DecisionsStand store shards left
decisions_stand store shards left now next place w st = stands_but_for store shards left now next place w st

pub deciders_stand : (store shards : ℕ) (left : NodeName → List Record → Type 0) → DecidersStand store shards left
deciders_stand store shards left now next place w f h st k is_id way is_next = record {
  nothing = λ none. let gone : Some w.id ≡ None = sym is_id ∙ none in absurd cc;
  own = λ id is. own_of id is;
  same_decision = refl;
  batch = λ b is. batch_on shards left left now (with_decision now next w) false (keeps store shards left now next place w st) b (k.batch b is);
  out = λ met is. let both : onward ≡ outward met = sym way ∙ is in absurd cc;
  cancelled = λ is none. absurd cc;
  refused_or_cancelled = λ is. let both : onward ≡ outward None = sym way ∙ is in absurd cc;
}
  where
    d : DecidedValue
    d = record { place = place; epoch = w.id.epoch }

    decision : (v : Entry) → v ≡ w → IsRightDecision shards left (with_decision now next w) v d
    decision v same = subst (λ (x : Entry). IsRightDecision shards left (with_decision now next w) x d) (sym same) (record {
      counted = omega (arith, is_next);
      epoch = refl;
      given = given_kept store shards left now next place w st w.id (own_given store shards left now next place w st);
      there = λ kept m knows same_one. ap (slice_get (now.machine.log ++ w ∷ [])) (let e : place - 1 ≡ length now.machine.log = omega (arith, is_next) in e) ∙ slice_get_last now.machine.log w;
    })

    own_of : (id : WriteId) → h.id ≡ Some id → IsRightOwn shards left (with_decision now next w) (record f { decided = Some d }) (own_write id w.changes w.conditions) (record h { intent = None; votes = []; decided = Some d })
    own_of id is =
        let both : Some w.id ≡ Some id = sym is_id ∙ is in
        let same : w.id ≡ id = cc in
        let old = k.own id is in
        record {
          undecided = λ none. absurd cc;
          intent = λ i none. absurd cc;
          tickets = λ j e lt. ticket_on shards left left now (with_decision now next w) false (keeps store shards left now next place w st) false (own_write id w.changes w.conditions) (subst (WasGiven shards left now.nodes) same (own_given store shards left now next place w st)) (same_doubts shards left left now (with_decision now next w) false st.step.shards (λ t rs x. x) (own_write id w.changes w.conditions)) _ (old.tickets j e lt);
          votes = All-nil _;
          decision = λ x here. let same_d : d ≡ x = cc in subst (λ (y : DecidedValue). IsRightDecision shards left (with_decision now next w) (own_write id w.changes w.conditions) y) same_d (decision (own_write id w.changes w.conditions) (ap (λ (i : WriteId). own_write i w.changes w.conditions) (sym same)));
          verdict = λ v here. ((old.verdict v here).0, verdict_kept store shards left now next place w st v (old.verdict v here).1);
          not_reopened = λ i none. absurd cc;
          gave = λ onward none. absurd cc;
        }

pub votes_prepare : (store shards : ℕ) (left : NodeName → List Record → Type 0) → VotesPrepare store shards left
unfolding expected
votes_prepare store shards left now w intent votes here some something u k all each = (prepared, hold)
  where
    of_votes : (s : ℕ) (found : List Record) → s < shards → leaves left now.nodes (shard s) found → takes_part shards s w ≡ true → find_in_doubt w.id (shard_state found).in_doubt ≡ Some (part shards s w)
    of_votes s found lt is takes =
        let vote = each s lt takes in
        let right = All-contains (IsRightVote shards left now w) votes vote.0 all vote.1 in
        let at_shard = subst (λ (j : ℕ). leaves left now.nodes (shard j) found) (sym vote.2) is in
        ap (λ (i : WriteId). find_in_doubt i (shard_state found).in_doubt) (sym right.own) ∙ right.prepared here found at_shard ∙ ap (λ (j : ℕ). Some (part shards j w)) vote.2

    none_found : (s : ℕ) (found : List Record) → s < shards → leaves left now.nodes (shard s) found → takes_part shards s w ≡ false → (o : Option Entry) → find_in_doubt w.id (shard_state found).in_doubt ≡ o → o ≡ None
    none_found s found lt is absent None has = refl
    none_found s found lt is absent (Some p) has = absurd (both_ways _ absent (u.exact s found p lt is has).0)

    prepared : IsPreparedInAll shards (at_shards (leaves left now.nodes)) w
    prepared s found lt is = ⊎_elim
        (λ takes. of_votes s found lt is takes ∙ ap (λ b. cond b (Some (part shards s w)) None) (sym takes))
        (λ absent. none_found s found lt is absent (find_in_doubt w.id (shard_state found).in_doubt) refl ∙ ap (λ b. cond b (Some (part shards s w)) None) (sym absent))
        (cases_Bool (takes_part shards s w))

    hold : HoldAfter now.machine.log w.conditions
    hold = conditions_hold_by_parts shards now.machine.log w some (λ s lt takes.
        let some_records = something s lt in
        let is : leaves left now.nodes (shard s) some_records.0 = (some_records.0, some_records.1, inl refl) in
        k.conditions here s some_records.0 (part shards s w) lt is (of_votes s some_records.0 lt is takes))
