-- What a shard's own contracts of a prepare and of a vote say makes turns of a run.
use Rattle.std.proofs.Common.{◌≡◌, ◌⊎◌, inl, inr, ⊎_elim, ℕ, ◌<◌, true, List, [], ◌∷◌, ◌++◌, length, Option, Some, None, Contains, All, refl, sym, ◌∙◌, ap, subst, arith}
use Rattle.std.proofs.lemmas.List.Elements.{All-append, All-cons, All-contains, All-nil, Contains-append_left, Contains-append_right}
use Rattle.turns.proofs.Words.{AskBelow, Asked, Entry, HasItsCause, HasNoRoom, HeldTicket, HeldVote, Holds, HoldsLess, HoldsOf, Identity, IntentValue, IsCause, IsCutOff, IsPreparing, IsRight, IsRightTicket, IsRightVote, IsRightWrite, IsUp, Moment, NodeName, Nodes, Prepare, Record, Refusal, Running, ShardIsSeen, ShardKnows, ShardState, ShardView, Stages, Stands, StandsAndTurns, State, TakesMemory, WriteHolds, WriteId, behind_shard, device_left, find_in_doubt, find_put_same, going_on, id_of, leaves, memory, onward, outward, own_part, own_write, part, shard, shard_state, takes_part, with_call, with_nodes, writing}
use Rattle.refusal.specs.declared.refusal.Refusal.TheVariants.{Aborted}
use Rattle.records.specs.Replays.{shard_step}
use Rattle.device.proofs.History.{reach_least}
use Rattle.decisions.specs.Values.{IsIntent, TicketValue, VoteValue}
use Rattle.shard.specs.Calls.{PrepareRefused, PreparesAt, VotesAt}
use Rattle.shard.specs.Shards.{IsBroken, IsBusy, IsPreparable}
use Rattle.shard.proofs.Tested.{part_prepared, same_part_id}
use Rattle.turns.specs.ShardSeamLaws.{IsHolder, IsOfPrepare, PrepareTurns, RefusedPrepareTurns, RefusedVoteTurns, VoteTurns, held_ticket}
use Rattle.stores.proofs.AbortCauses.{refused_tickets}
use Rattle.stores.proofs.PrepareTurn.{broken_shards_have_cause, busy_shards_have_cause, collected_shards_have_cause, full_shards_have_cause, prepared_conditions_are_met}
use Rattle.stores.proofs.FlowBegins.{alone}
use Rattle.turns.proofs.QuietTurns.{all_of, nothing_changes, of_node, quiet_calls_turn, refused_writes_go_out, staged_and_goes_on}
use Rattle.turns.proofs.ShardSeam.{known_left, knows, left_or_known, memory_after, own_is, same_epoch, seen_after, staging, step}
use Rattle.stores.proofs.ShardStagesSteps.{prepares_stand}
use Rattle.tuples.proofs.Options.{some_value}

pub last_sync : (d : State) → device_left d d.durable
last_sync d = record { no_shorter = omega arith; no_longer = reach_least d.written (length d.durable); same = λ i lt un. refl }

-- a write flow with other tickets and votes of its write, all of them right, and of each shard of which it held some
holder_right : (shards : ℕ) (left : NodeName → List Record → Type 0) (at : Moment) (r : Running) (h : WriteHolds) (w : Entry) (holds : Holds) (m : Moment) (tickets : List HeldTicket) (votes : List HeldVote)
    → ((s : ℕ) → HoldsOf h s → HoldsOf (record h { tickets = tickets; votes = votes }) s) → h.id ≡ Some w.id → IsRightWrite shards left at r w.changes w.conditions h → All (IsRightTicket shards left at w) tickets → All (IsRightVote shards left at w) votes
    → IsRightWrite shards left at (with_call r holds r.met m.machine) w.changes w.conditions (record h { tickets = tickets; votes = votes })
holder_right shards left at r h w holds m tickets votes still has_id k right_tickets right_votes = record {
  nothing = λ none. let both : Some w.id ≡ None = sym has_id ∙ none in absurd cc;
  own = λ id is.
      let old = k.own id is in
      let both : Some w.id ≡ Some id = sym has_id ∙ is in
      let same : w.id ≡ id = cc in
      record {
        undecided = old.undecided;
        intent = old.intent;
        tickets = subst (λ (i : WriteId). All (IsRightTicket shards left at (own_write i w.changes w.conditions)) tickets) same right_tickets;
        votes = subst (λ (i : WriteId). All (IsRightVote shards left at (own_write i w.changes w.conditions)) votes) same right_votes;
        decision = old.decision;
        verdict = old.verdict;
        not_reopened = old.not_reopened;
        gave = λ way none s found p lt here has. still s (old.gave way none s found p lt here has);
      };
  same_decision = k.same_decision;
  batch = k.batch;
  out = k.out;
  cancelled = k.cancelled;
  refused_or_cancelled = k.refused_or_cancelled;
}

module _ (store shards : ℕ) (left : NodeName → List Record → Type 0) {D : Type 0} (now : Moment) (old : ShardView D) (s : ℕ) (w : Entry) (r : Running) (h : WriteHolds)
    (st : Stands store shards left now) (seen : ShardIsSeen store shards s now.nodes old) (own : IsHolder now r h w) where
  has_id : h.id ≡ Some w.id
  has_id = sym (ap id_of own.holds) ∙ own.flow.id

  held_now : IsRightWrite shards left now r w.changes w.conditions h
  held_now = subst (λ (a : Asked). IsRight shards left now r a (writing h)) own.flow.asked
      (subst (λ (x : Holds). IsRight shards left now r r.asked x) own.holds (st.flows.held r own.flow.there))

  -- if the shard changed nothing
  goes_on_with : (tickets : List HeldTicket) (votes : List HeldVote) → ((t : ℕ) → HoldsOf h t → HoldsOf (record h { tickets = tickets; votes = votes }) t)
      → All (IsRightTicket shards left now w) tickets → All (IsRightVote shards left now w) votes
      → StandsAndTurns store shards left now now.nodes r (with_call r (writing (record h { tickets = tickets; votes = votes })) r.met now.machine)
  goes_on_with tickets votes still right_tickets right_votes = quiet_calls_turn store shards left left now now.nodes now.machine r (writing (record h { tickets = tickets; votes = votes })) r.met
      (record { call = nothing_changes store shards left now st; running = own.flow.there; same_id = sym (ap id_of own.holds); right = right })
      (inl refl)
    where
      right : IsRight shards left now (with_call r (writing (record h { tickets = tickets; votes = votes })) r.met now.machine) r.asked (writing (record h { tickets = tickets; votes = votes }))
      right = subst (λ (a : Asked). IsRight shards left now (with_call r (writing (record h { tickets = tickets; votes = votes })) r.met now.machine) a (writing (record h { tickets = tickets; votes = votes }))) (sym own.flow.asked)
          (holder_right shards left now r h w (writing (record h { tickets = tickets; votes = votes })) now tickets votes still has_id held_now right_tickets right_votes)

  -- if it holds nothing of a shard, on its way to the decision, no prepare of its write is in doubt there
  pub not_prepared : h.way ≡ onward → (HoldsOf h s → ⊥) → find_in_doubt w.id (memory old).in_doubt ≡ None
  not_prepared way nothing = by_found (find_in_doubt w.id (memory old).in_doubt) refl
    where
      by_found : (o : Option Entry) → find_in_doubt w.id (memory old).in_doubt ≡ o → o ≡ None
      by_found None is = refl
      by_found (Some p) is = absurd (nothing ((held_now.own w.id has_id).gave way own.flow.undecided s (old.durable ++ old.staged) p seen.there (known_left store shards left now old s seen st) is))

  module _ (takes : takes_part shards s w ≡ true) where
    abbrev asks : (fresh : find_in_doubt w.id (memory old).in_doubt ≡ None) → IsPreparing store shards left now r w s
    asks fresh = record { stands = st; flow = own.flow; there = seen.there; takes = takes; memory = memory old; knows = knows store shards left now old s seen; fresh = fresh }

    module _ (state : D → State) (honest : D → Type 0) (new : ShardView D) (t : TicketValue) (call : PreparesAt state honest old w t new) where
      stages : Stages old (Prepare (part shards s w)) new
      stages = subst (λ (p : Entry). Stages old (Prepare p) new) (own_is store shards left now old s seen w) call.stages

      may : IsPreparable (memory old) (part shards s w)
      may = subst (IsPreparable (memory old)) (own_is store shards left now old s seen w) call.preparable

      not_here : find_in_doubt w.id (memory old).in_doubt ≡ None
      not_here = ap (λ (i : WriteId). find_in_doubt i (memory old).in_doubt) (sym (same_part_id shards s w)) ∙ may.free.new

      abbrev next : Nodes
      next = behind_shard s now.nodes new

      in_doubt_now : (m : ShardState) → ShardKnows next s m → find_in_doubt (part shards s w).id m.in_doubt ≡ Some (part shards s w)
      unfolding shard_step
      in_doubt_now m k = ap (λ (x : ShardState). find_in_doubt (part shards s w).id x.in_doubt) (memory_after store shards left now old s seen new (Prepare (part shards s w)) stages m k)
          ∙ find_put_same (memory old).in_doubt (part shards s w)

      ticket : IsRightTicket shards left (with_nodes now next) w (held_ticket s t)
      ticket = record {
        own = call.id;
        there = seen.there;
        takes = takes;
        epoch = λ found is.
            let durable : found ≡ old.durable = (st.nodes.durable (shard s) old.durable old.staged found seen.at).0 is in
            let same : t.epoch ≡ (shard_state found).epoch = call.epoch
            ∙ same_epoch old.durable old.staged (λ e a b c has. st.nodes.no_opening (shard s) old.durable old.staged e a b c seen.at has)
            ∙ ap (λ (l : List Record). (shard_state l).epoch) (sym durable) in
            omega (arith, same);
        prepared = λ is_open m k same. ap (λ (i : WriteId). find_in_doubt i m.in_doubt) (call.id ∙ sym (same_part_id shards s w)) ∙ in_doubt_now m k;
      }

      prepare_turns : ShardIsSeen store shards s next new
          × StandsAndTurns store shards left now next r (with_call r (writing (record h { tickets = h.tickets ++ held_ticket s t ∷ [] })) r.met now.machine)
      prepare_turns = (seen_after store shards left now old s seen new (Prepare (part shards s w)) stages, goes_on_with_ticket)
        where
          goes_on_with_ticket : StandsAndTurns store shards left now next r (with_call r (writing (record h { tickets = h.tickets ++ held_ticket s t ∷ [] })) r.met now.machine)
          goes_on_with_ticket = (
            prepares_stand store shards left now next s w r h (held_ticket s t) (staging store shards left now old s seen new (Prepare (part shards s w)) stages st call.up.image) own.flow own.holds takes
                (λ is_open. prepared_conditions_are_met store shards left now r w s (asks not_here) may) refl ticket,
            staged_and_goes_on store shards left now next (shard s) (Prepare (part shards s w)) (step store shards left now old s seen new (Prepare (part shards s w)) stages) (λ a b c d is. absurd cc) refl refl r
                own.flow.there (writing (record h { tickets = h.tickets ++ held_ticket s t ∷ [] })) (sym (ap id_of own.holds)),
          )

    -- what it refuses has its cause
    refused_cause : (behind : Moment) (e : Refusal) → IsIntent w → find_in_doubt w.id (memory old).in_doubt ≡ None → PrepareRefused old w e → IsOfPrepare e → HasItsCause shards (shard s) now behind r e
    refused_cause behind e intent fresh given_up is_of = inl (⊎_elim
        (λ is. subst (λ x. IsCause shards (shard s) now behind r x) (sym is) (collected_shards_have_cause store shards left now behind r w s (asks fresh)
        (subst (λ (p : Entry). AskBelow (memory old).horizon p.conditions) own_here (given_up.collected is))))
        (λ more. ⊎_elim
        (λ is. subst (λ x. IsCause shards (shard s) now behind r x) (sym is) (busy_shards_have_cause store shards left now behind r w s (asks fresh) (subst (IsBusy (memory old)) own_here (given_up.busy is))))
        (λ rest. ⊎_elim
        (λ is. subst (λ x. IsCause shards (shard s) now behind r x) (sym is) (broken_shards_have_cause store shards left now behind r w s (asks fresh) (subst (IsBroken (memory old)) own_here (given_up.broken is))))
        (λ last. ⊎_elim
        (λ is. subst (λ x. IsCause shards (shard s) now behind r x) (sym is) (full_shards_have_cause store shards left now behind r w s (asks fresh) (part_prepared shards s w intent takes)
        (subst (λ (p : Entry). HasNoRoom old.staged (Prepare p)) own_here (given_up.full is).1)))
        (λ is. subst (λ x. IsCause shards (shard s) now behind r x) (sym is) (subst TakesMemory (sym own.flow.asked) tt))
        last)
        rest)
        more)
        is_of)
      where
        own_here : own_part old w ≡ part shards s w
        own_here = own_is store shards left now old s seen w

  ticket_of : (t : TicketValue) → Contains h.tickets (held_ticket s t) → IsRightTicket shards left now w (held_ticket s t)
  ticket_of t has = All-contains (IsRightTicket shards left now w) h.tickets (held_ticket s t) (held_now.own w.id has_id).tickets has

  module _ (t : TicketValue) (has : Contains h.tickets (held_ticket s t)) (rest : List HeldTicket) (sub : (x : HeldTicket) → Contains rest x → Contains h.tickets x) where
    same_id : t.id ≡ w.id
    same_id = (ticket_of t has).own

    module _ (state : D → State) (honest : D → Type 0) (v : VoteValue) (all : (x : HeldTicket) → Contains h.tickets x → (x ≡ held_ticket s t) ⊎ Contains rest x) (is_up : IsUp state honest old) (votes : VotesAt state old t v) where
      here : (p : Entry) × (find_in_doubt t.id (memory old).in_doubt ≡ Some p)
      here = some_value (find_in_doubt t.id (memory old).in_doubt) votes.here

      -- what it has in doubt is its part
      exact_part : (takes_part shards s w ≡ true) × (here.0 ≡ part shards s w)
      exact_part = ((held_now.own w.id has_id).undecided own.flow.undecided).exact s (old.durable ++ old.staged) here.0 seen.there (known_left store shards left now old s seen st)
          (ap (λ (i : WriteId). find_in_doubt i (memory old).in_doubt) (sym same_id) ∙ here.1)

      exactly : here.0 ≡ part shards s w
      exactly = exact_part.1

      durable_found : find_in_doubt t.id (shard_state old.durable).in_doubt ≡ Some here.0
      durable_found = votes.durable here.0 here.1 old.durable
          ((state old.a).durable, (state old.b).durable, last_sync (state old.a), last_sync (state old.b), is_up.rest (state old.a).durable (state old.b).durable (last_sync (state old.a)) (last_sync (state old.b)))

      found_there : (found : List Record) → leaves left now.nodes (shard s) found → find_in_doubt t.id (shard_state found).in_doubt ≡ Some (part shards s w)
      found_there found is = ⊎_elim
          (λ plain. ap (λ (l : List Record). find_in_doubt t.id (shard_state l).in_doubt) plain ∙ durable_found ∙ ap (λ (p : Entry). Some p) exactly)
          (λ more. ap (λ (l : List Record). find_in_doubt t.id (shard_state l).in_doubt) more ∙ here.1 ∙ ap (λ (p : Entry). Some p) exactly)
          (left_or_known store shards left now old s seen st found is)

      of_shard : v.shard ≡ s
      of_shard = votes.shard ∙ ap (λ (i : Identity). i.node) seen.me

      vote : IsRightVote shards left now w v
      vote = record {
        own = votes.id ∙ same_id;
        there = subst (λ (n : ℕ). n < shards) (sym of_shard) seen.there;
        takes = subst (λ (n : ℕ). takes_part shards n w ≡ true) (sym of_shard) (ticket_of t has).takes;
        prepared = λ is_open found is. ap (λ (i : WriteId). find_in_doubt i (shard_state found).in_doubt) votes.id
            ∙ found_there found (subst (λ (n : ℕ). leaves left now.nodes (shard n) found) of_shard is)
            ∙ ap (λ (n : ℕ). Some (part shards n w)) (sym of_shard);
      }

      -- instead of the ticket there is the vote
      still : (k : ℕ) → HoldsOf h k → HoldsOf (record h { tickets = rest; votes = h.votes ++ v ∷ [] }) k
      still k (inl held) = ⊎_elim
          (λ (same : held.0 ≡ held_ticket s t). inr (v, Contains-append_right h.votes (v ∷ []) v (alone v []), of_shard ∙ ap (λ (x : HeldTicket). x.shard) (sym same) ∙ held.2))
          (λ other. inl (held.0, other, held.2))
          (all held.0 held.1)
      still k (inr held) = inr (held.0, Contains-append_left h.votes (v ∷ []) held.0 held.1, held.2)

      vote_turns : StandsAndTurns store shards left now now.nodes r (with_call r (writing (record h { tickets = rest; votes = h.votes ++ v ∷ [] })) r.met now.machine)
      vote_turns = goes_on_with rest (h.votes ++ v ∷ []) still
          (all_of (IsRightTicket shards left now w) h.tickets rest sub (held_now.own w.id has_id).tickets)
          (All-append (IsRightVote shards left now w) h.votes (v ∷ []) (held_now.own w.id has_id).votes (All-cons (IsRightVote shards left now w) v [] vote (All-nil (IsRightVote shards left now w))))

    -- a ticket of a write that is not in doubt is cut off
    cut_off : (intent : IntentValue) → h.intent ≡ Some intent → find_in_doubt t.id (memory old).in_doubt ≡ None → IsCutOff now.nodes r (writing h)
    cut_off intent has_it none = refused_tickets store shards left now r h w intent (held_ticket s t) (memory old) st
        (record { running = own.flow.there; asked = own.flow.asked; holds = own.holds; id = has_id; undecided = own.flow.undecided }) has_it has (knows store shards left now old s seen)
        (λ is. let both : None ≡ Some (part shards s w) = sym none ∙ is in absurd cc)

less_way : (h : WriteHolds) (e : Refusal) → HoldsLess h (record h { way = outward (Some e) })
less_way h e = record {
  id = refl;
  intent = λ i is. is;
  tickets = λ t has. has;
  votes = λ v has. has;
  decided = refl;
  batch = λ b is. is;
  verdict = λ id is. is;
  gave = λ is. let both : outward (Some e) ≡ onward = is in absurd cc;
}

pub prepare_turns_of : (store shards : ℕ) (left : NodeName → List Record → Type 0) {D : Type 0} (state : D → State) (honest : D → Type 0) → PrepareTurns store shards left state honest
prepare_turns_of store shards left state honest now old new s w t r h st seen own takes call = prepare_turns store shards left now old s w r h st seen own takes state honest new t call

pub refused_prepare_turns : (store shards : ℕ) (left : NodeName → List Record → Type 0) {D : Type 0} (state : D → State) (honest : D → Type 0) → RefusedPrepareTurns store shards left state honest
refused_prepare_turns store shards left state honest now old s w e r h st seen own takes intent way nothing given_up is_of =
    refused_writes_go_out store shards left left now now.nodes now.machine r h (record h { way = outward (Some e) }) w.changes w.conditions e
    (of_node store shards left left now now.machine (shard s) (nothing_changes store shards left now st))
    own.flow.there own.flow.asked own.holds (less_way h e) refl own.flow.undecided
    (refused_cause store shards left now old s w r h st seen own takes (going_on now now.nodes now.machine (with_call r (writing (record h { way = outward (Some e) })) (Some e) now.machine)) e intent
    (not_prepared store shards left now old s w r h st seen own way nothing) given_up is_of)

pub vote_turns_of : (store shards : ℕ) (left : NodeName → List Record → Type 0) {D : Type 0} (state : D → State) (honest : D → Type 0) → VoteTurns store shards left state honest
vote_turns_of store shards left state honest now old s w t v r h rest st seen own has sub all is_up votes = vote_turns store shards left now old s w r h st seen own t has rest sub state honest v all is_up votes

pub refused_vote_turns : (store shards : ℕ) (left : NodeName → List Record → Type 0) {D : Type 0} (state : D → State) (honest : D → Type 0) → RefusedVoteTurns store shards left state honest
refused_vote_turns store shards left state honest now old s w t intent r h rest st seen own has_it has sub none =
    refused_writes_go_out store shards left left now now.nodes now.machine r h (record h { way = outward (Some Aborted); tickets = rest }) w.changes w.conditions Aborted (nothing_changes store shards left now st)
    own.flow.there own.flow.asked own.holds
    (record {
      id = refl;
      intent = λ i is. is;
      tickets = sub;
      votes = λ x has. has;
      decided = refl;
      batch = λ b is. is;
      verdict = λ id is. is;
      gave = λ is. let both : outward (Some Aborted) ≡ onward = is in absurd cc;
    })
    refl own.flow.undecided
    (inl (subst (λ (x : Holds). IsCutOff now.nodes r x) (sym own.holds) (cut_off store shards left now old s w r h st seen own t has rest sub intent has_it none)))
