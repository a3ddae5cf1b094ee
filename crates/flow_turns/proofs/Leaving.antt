-- A write flow on its way out: its abort, its inquiry and its drops are turns.
use Rattle.std.proofs.Common.{◌≡◌, ◌⊎◌, inl, inr, ⊎_elim, ◌≤◌, ◌++◌, ℕ, Bool, true, false, true≢false, List, [], ◌∷◌, Result, Ok, Err, Option, Some, None, Contains, refl, sym, ◌∙◌, ap, subst}
use Rattle.std.specs.Prelude.{MatchOption}
use Rattle.std.proofs.lemmas.Bool.{cases_Bool}
use Rattle.std.proofs.lemmas.List.Elements.{All-nil, Contains-append_right}
use Rattle.flow_turns.proofs.WriteWords.{Answered, CoordinatorView, Down, Entry, GivesTo, GoesOn, HeldTicket, HoldsLess, IntentValue, IsCalled, IsMade, IsQuietlyMade, IsReplyTo, IsSeen, IsUndecidedFlow, Machine, Moment, NamesHorizon, NodeName, NodeView, Nodes, Record, Refusal, Refused, Reply, Running, Stands, StandsOver, State, Store, Told, Turns, TurnsBy, VoteValue, WriteId, WriteView, answered_belongs, at_rest, behind_shard, coordinator, devices_of, ending, flows_end, from_coordinator, from_shard, going_on, id_of, is_seen, left, of_coordinator, of_shard, onward, outward, own_write, refuses, runs_now, same_devices, shard, shard_is_seen, shard_is_up, still_made, stops, to_write, told_end, told_unless, view_ended, with_call, without_id, writing}
use Rattle.decisions.specs.Coordinators.{AbortsAt}
use Rattle.decisions.specs.Values.{VerdictValue}
use Rattle.decisions.specs.declared.held.Held.{Held}
use Rattle.coordinator.specs.declared.telling.Inquiry as inquiries
use Rattle.coordinator.specs.declared.telling.Inquiry.TheVariants.{Commit, Abort as is_aborted, Undecided}
use Rattle.calls.specs.Views as views
use Rattle.calls.specs.declared.call.CoordinatorCall.TheVariants as coordinator_calls
use Rattle.calls.specs.declared.call.ShardCall.TheVariants as shard_calls
use Rattle.calls.specs.declared.reply.CoordinatorReply.TheVariants as told
use Rattle.calls.specs.declared.reply.ShardReply.TheVariants as told_by
use Rattle.commit_flow.specs.Answering.{AbortGives, GoesToDrop, InquireGives, end_of}
use Rattle.commit_flow.specs.Views.{as_tickets, as_votes}
use Rattle.commit_flow.specs.WriteHolds as waits
use Rattle.commit_flow.specs.Writing.{IsOnItsWayOut}
use Rattle.stores.specs.AbortLaws.{with_closed, with_verdict}
use Rattle.turns.specs.Runs.{EndsAs, EndsQuietly, IsQuiet, MayRise}
use Rattle.turns.proofs.AbortSeam.{abort_turns}
use Rattle.turns.proofs.CoordinatorCalls.{inquiries_answer}
use Rattle.turns.proofs.CoordinatorTurns.{verdicts_turn}
use Rattle.turns.proofs.ShardLearnSeam.{drops_quietly}
use Rattle.flow_turns.proofs.Asked.{staged_made}
use Rattle.flow_turns.proofs.Catching.{may_ask_coordinator, may_ask_shard}
use Rattle.flow_turns.proofs.Going.{IsFlow, Promises, asked_is, cancelled_is, changes, conditions, ends, ends_out, flow_there, going, holds_is, moved, right, spends}
use Rattle.flow_turns.proofs.Memory.{devices, ends_anyway, still_made_of}

module _ {D : Type 0} (state : D → State) (honest : D → Type 0) (moment : D → ℕ) (left_since : D → ℕ → List ℕ → Type 0)
    (counts_now : (d : D) (t : ℕ) (c : List ℕ) → honest d → t ≤ moment d → left (state d) c → left_since d t c) (only_now : (d : D) (c : List ℕ) → honest d → left_since d (moment d) c → left (state d) c)
    (store shards : ℕ) (old new : Store D) (slot : ℕ) (is_cancelled : Bool) (v later : WriteView) (number : ℕ) (now : Moment) (standing : StandsOver state honest store shards old now)
    (r : Running) (flow : IsFlow state honest moment left_since store shards old new now standing number slot is_cancelled v r) (out : IsOnItsWayOut v) where
  abbrev Goal : WriteView → Type 0
  Goal = Promises state honest moment left_since store shards old new now standing number slot is_cancelled v

  abbrev Made : Nodes → Machine → Type 0
  Made = IsQuietlyMade state honest moment left_since store shards old new now standing

  abbrev before : NodeName → List Record → Type 0
  before = stops state honest store shards old.devices

  abbrev asked_to : r.asked ≡ to_write (changes state honest moment left_since store shards old new now standing number slot is_cancelled v r flow) (conditions state honest moment left_since store shards old new now standing number slot is_cancelled v r flow)
  asked_to = asked_is state honest moment left_since store shards old new now standing number slot is_cancelled v r flow

  undecided : r.decided ≡ None
  undecided = ((right state honest moment left_since store shards old new now standing number slot is_cancelled v r flow).out out.0 out.1).0

  -- after a quiet call it ends
  quiet_end : (next : Nodes) (m : Machine) → Made next m → later ≡ view_ended (end_of v.holds.way) → Goal later
  quiet_end next m quiet is = subst Goal (sym is) (ends_out state honest moment left_since store shards old new now standing number slot is_cancelled v r flow next m quiet out.0 out.1)

  -- the abort, by the intent
  module _ (intent : IntentValue) (has : v.holds.intent ≡ Some intent) where
    abbrev asked_abort : WriteView
    asked_abort = record v { holds = record v.holds { intent = None }; awaited = Some waits.abort }

    abbrev w : Entry
    w = intent.write

    own_id : (o : Option WriteId) → v.holds.id ≡ o → v.holds.id ≡ Some intent.write.id
    own_id None is = let both : None ≡ Some intent = sym ((right state honest moment left_since store shards old new now standing number slot is_cancelled v r flow).nothing is).intent ∙ has in absurd cc
    own_id (Some id) is = is ∙ ap (λ (e : Entry). Some e.id) (sym (((right state honest moment left_since store shards old new now standing number slot is_cancelled v r flow).own id is).intent intent has).1.own)

    has_id : v.holds.id ≡ Some intent.write.id
    has_id = own_id v.holds.id refl

    is_own : intent.write ≡ own_write intent.write.id (changes state honest moment left_since store shards old new now standing number slot is_cancelled v r flow) (conditions state honest moment left_since store shards old new now standing number slot is_cancelled v r flow)
    is_own = (((right state honest moment left_since store shards old new now standing number slot is_cancelled v r flow).own intent.write.id has_id).intent intent has).1.own

    own : IsUndecidedFlow now r v.holds w
    own = record {
      running = flow.running;
      asked = asked_to ∙ ap (λ (e : Entry). to_write e.changes e.conditions) (sym is_own);
      holds = holds_is state honest moment left_since store shards old new now standing number slot is_cancelled v r flow;
      id = has_id;
      undecided = undecided;
    }

    module _ (x y : CoordinatorView D) (called : IsCalled state honest moment left_since store shards coordinator (views.coordinator x) (views.coordinator y) old new) (is_up : x.is_down ≡ false) (aborts : AbortsAt x w.id y) where
      abbrev next : Nodes
      next = with_closed now.nodes w.id

      law : IsSeen next y × Stands store shards before (going_on now next now.machine (with_verdict now r v.holds w))
          × Turns shards (NamesHorizon state honest store shards old now) now r (told_unless r.is_cancelled) (going_on now next now.machine (with_verdict now r v.holds w))
      law = abort_turns store shards before D now x y r v.holds w standing.stands (is_seen state honest store shards old now standing x called.before is_up) aborts own

      made : IsMade state honest moment left_since store shards old new now next now.machine
      made = still_made_of state honest moment left_since only_now store shards old new now standing x y called is_up x.staged (without_id w.id x.open_ids) x.given aborts.new_is next law.0 (λ t. refl) refl

      same_devices_then : new.devices ≡ old.devices
      same_devices_then = devices state honest moment left_since only_now store shards old new now standing x y called is_up x.staged (without_id w.id x.open_ids) x.given aborts.new_is

      aborted_going : (id : WriteId) → id ≡ w.id → GoesOn (record v.holds { intent = None; verdict = Some id }) later → Goal later
      aborted_going id same is = subst Goal (sym (is ∙ ap (λ (i : WriteId). at_rest (record v.holds { intent = None; verdict = Some i })) same))
          (going state honest moment left_since store shards old new now standing number slot is_cancelled v r flow next now.machine (record v.holds { intent = None; verdict = Some w.id }) None false w.id
          (with_verdict now r v.holds w) made has_id refl refl refl
          (moved state honest moment left_since store shards old new now standing number slot is_cancelled v same_devices_then _ law.1, law.2))

      ended_stands : Stands store shards (stops state honest store shards new.devices) (ending now next now.machine r [])
      ended_stands = moved state honest moment left_since store shards old new now standing number slot is_cancelled v same_devices_then (ending now next now.machine r [])
          (subst (λ (l : List Running). Stands store shards before (record now { nodes = next; running = l })) (ends_anyway (with_verdict now r v.holds w) now.running)
          (flows_end store shards before (going_on now next now.machine (with_verdict now r v.holds w)) r.slot law.1))

      -- the turn that aborts it and ends
      ends_at_once : (told : List Told)
          → (((r.is_cancelled ≡ false) × ((t : Told) × (told ≡ t ∷ []) × EndsAs shards (NamesHorizon state honest store shards old now) now (with_call r r.holds r.met now.machine) (ending now next now.machine r []) t))
          ⊎ ((r.is_cancelled ≡ true) × (told ≡ []) × EndsQuietly shards (NamesHorizon state honest store shards old now) now (with_call r r.holds r.met now.machine) (ending now next now.machine r [])))
          → Turns shards (NamesHorizon state honest store shards old now) now r told (ending now next now.machine r [])
      ends_at_once told tells = record {
        moves = [];
        machine = refl;
        node = coordinator;
        others = record { others = λ m ne. refl; open_writes = λ ne. absurd (ne refl); given = λ ne. refl };
        called = inl refl;
        later = with_call r r.holds r.met now.machine;
        open_writes = inr (inr (record { id = w.id; held = ap id_of own.holds ∙ has_id; open_writes = refl; given = refl }));
        turned = record {
          slot = refl;
          asked = refl;
          same_id = λ id is. is;
          seen = refl;
          decides = inr (record { moves_are = All-nil (IsQuiet (MayRise shards (NamesHorizon state honest store shards old now) now)); decided = refl });
          met = inl refl;
          cancelled = refl;
          reopened_is = refl;
        };
        named = refl;
        tells = tells;
      }

      ended_by : (b : Bool) → r.is_cancelled ≡ b → (met : Option Refusal) → v.holds.way ≡ outward met → Goal (view_ended (end_of (outward met)))
      ended_by true gone met way = ends state honest moment left_since store shards old new now standing number slot is_cancelled v r flow next now.machine (end_of (outward met)) [] made
          (ap (λ (b : Bool). told_end b (end_of (outward met))) (sym gone ∙ cancelled_is state honest moment left_since store shards old new now standing number slot is_cancelled v r flow))
          (ended_stands, ends_at_once [] (inr (gone, refl, (refl, inr refl))))
      ended_by false alive None way = absurd (true≢false (sym ((right state honest moment left_since store shards old new now standing number slot is_cancelled v r flow).refused_or_cancelled way) ∙ alive))
      ended_by false alive (Some e) way =
          let met = ((right state honest moment left_since store shards old new now standing number slot is_cancelled v r flow).out (Some e) way).1 e refl in
          ends state honest moment left_since store shards old new now standing number slot is_cancelled v r flow next now.machine (Refused e) (refuses e ∷ []) made
          (ap (λ (b : Bool). told_end b (Refused e)) (sym alive ∙ cancelled_is state honest moment left_since store shards old new now standing number slot is_cancelled v r flow))
          (ended_stands, ends_at_once (refuses e ∷ []) (inl (alive, (refuses e, refl, (record { met = met.0; decided = λ none. met.1; undecided_write = λ other. undecided }, refl, refl)))))

      aborted : (id : WriteId) → id ≡ w.id → GoesToDrop asked_abort id later → Goal later
      aborted id same (inl goes) = aborted_going id same goes
      aborted id same (inr stops_here) = subst Goal (sym (stops_here.2 ∙ ap (λ way. view_ended (end_of way)) out.1)) (ended_by r.is_cancelled refl out.0 out.1)

    abort_by : (was is : NodeView D) (reply : Result VerdictValue Refusal) → IsCalled state honest moment left_since store shards coordinator was is old new
        → Answered state honest moment left_since was (of_coordinator (coordinator_calls.Abort intent)) (from_coordinator (told.Abort reply)) is → AbortGives asked_abort reply later → Goal later
    abort_by (views.coordinator x) (views.coordinator y) (Ok verdict) called so gives = ⊎_elim
        (λ gone. let bad : Ok verdict ≡ Err Down = so.down.1 gone in absurd cc)
        (λ is_up.
        let ok = so.ok (runs_now state honest store shards old now standing x called.before is_up) in
        aborted x y called is_up ok.1 verdict.id ok.0 gives)
        (cases_Bool x.is_down)
    abort_by (views.coordinator x) (views.coordinator y) (Err e) called so gives = quiet_end now.nodes now.machine
        (still_made state honest moment left_since store shards old new now standing coordinator (views.coordinator x) (views.coordinator y) called only_now (ap views.coordinator so.err.0)) gives
    abort_by (views.coordinator x) (views.shard y) reply called so gives = absurd so
    abort_by (views.coordinator x) (views.refused e a b) reply called so gives = absurd so
    abort_by (views.shard x) is reply called so gives = absurd called.before.named
    abort_by (views.refused e a b) is reply called so gives = quiet_end now.nodes now.machine
        (still_made state honest moment left_since store shards old new now standing coordinator (views.refused e a b) is called only_now so.0)
        (subst (λ (z : Result VerdictValue Refusal). AbortGives asked_abort z later) so.1 gives)

    abort_reply : (was is : NodeView D) (reply : Reply) → IsCalled state honest moment left_since store shards coordinator was is old new
        → Answered state honest moment left_since was (of_coordinator (coordinator_calls.Abort intent)) reply is → IsReplyTo (of_coordinator (coordinator_calls.Abort intent)) reply → GivesTo asked_abort waits.abort reply later → Goal later
    abort_reply was is (from_coordinator (told.Abort reply)) called so fits gives = abort_by was is reply called so gives
    abort_reply was is reply called so fits gives = absurd fits

  -- the inquiry, if the intent is spent
  module _ (id : WriteId) (has_id : v.holds.id ≡ Some id) where
    abbrev asked_inquire : WriteView
    asked_inquire = record v { awaited = Some waits.inquire }

    inquired_up : (x y : CoordinatorView D) → IsCalled state honest moment left_since store shards coordinator (views.coordinator x) (views.coordinator y) old new → y ≡ x → x.is_down ≡ false
        → (reply : Result inquiries.Inquiry Refusal) → Answered state honest moment left_since (views.coordinator x) (of_coordinator (coordinator_calls.Inquire id)) (from_coordinator (told.Inquire reply)) (views.coordinator y)
        → InquireGives asked_inquire reply later → Goal later
    inquired_up x y called same is_up (Ok (is_aborted verdict)) so gives = by_drop gives
      where
        quiet : Made now.nodes now.machine
        quiet = still_made state honest moment left_since store shards old new now standing coordinator (views.coordinator x) (views.coordinator y) called only_now (ap views.coordinator same)

        same_then : new.devices ≡ old.devices
        same_then = same_devices state honest moment left_since store shards old new now standing coordinator (views.coordinator x) (views.coordinator y) called (ap (λ (z : CoordinatorView D). devices_of (views.coordinator z)) same)

        by_drop : GoesToDrop asked_inquire verdict.id later → Goal later
        by_drop (inl goes) =
            let told_is = so.1.abort verdict (runs_now state honest store shards old now standing x called.before is_up) refl in
            let verdict_right = (inquiries_answer store shards before D now x id standing.stands (is_seen state honest store shards old now standing x called.before is_up)).1 told_is.1 in
            let law = verdicts_turn store shards before now r _ _ v.holds id standing.stands flow.running asked_to (holds_is state honest moment left_since store shards old new now standing number slot is_cancelled v r flow) has_id verdict_right in
            subst Goal (sym (goes ∙ ap (λ (i : WriteId). at_rest (record v.holds { verdict = Some i })) told_is.0))
            (going state honest moment left_since store shards old new now standing number slot is_cancelled v r flow now.nodes now.machine (record v.holds { verdict = Some id }) None false id
            (with_call r (writing (record v.holds { verdict = Some id })) r.met now.machine) quiet.1 has_id refl refl refl
            (moved state honest moment left_since store shards old new now standing number slot is_cancelled v same_then _ law.0, law.1))
        by_drop (inr stops_here) = quiet_end now.nodes now.machine quiet stops_here.2
    inquired_up x y called same is_up (Ok (Commit place)) so gives = quiet_end now.nodes now.machine
        (still_made state honest moment left_since store shards old new now standing coordinator (views.coordinator x) (views.coordinator y) called only_now (ap views.coordinator same)) gives
    inquired_up x y called same is_up (Ok Undecided) so gives = quiet_end now.nodes now.machine
        (still_made state honest moment left_since store shards old new now standing coordinator (views.coordinator x) (views.coordinator y) called only_now (ap views.coordinator same)) gives
    inquired_up x y called same is_up (Err e) so gives = quiet_end now.nodes now.machine
        (still_made state honest moment left_since store shards old new now standing coordinator (views.coordinator x) (views.coordinator y) called only_now (ap views.coordinator same)) gives

    refused_end : (was is : NodeView D) → IsCalled state honest moment left_since store shards coordinator was is old new → is ≡ was → (e : Refusal) (reply : Result inquiries.Inquiry Refusal) → reply ≡ Err e
        → InquireGives asked_inquire reply later → Goal later
    refused_end was is called same e reply err gives = quiet_end now.nodes now.machine (still_made state honest moment left_since store shards old new now standing coordinator was is called only_now same)
        (subst (λ (z : Result inquiries.Inquiry Refusal). InquireGives asked_inquire z later) err gives)

    down_end : (x y : CoordinatorView D) → IsCalled state honest moment left_since store shards coordinator (views.coordinator x) (views.coordinator y) old new → y ≡ x → x.is_down ≡ true
        → (reply : Result inquiries.Inquiry Refusal) → Answered state honest moment left_since (views.coordinator x) (of_coordinator (coordinator_calls.Inquire id)) (from_coordinator (told.Inquire reply)) (views.coordinator y)
        → InquireGives asked_inquire reply later → Goal later
    down_end x y called same gone (Ok found) so gives = absurd (true≢false (sym (so.1.down.1 gone)))
    down_end x y called same gone (Err e) so gives = refused_end (views.coordinator x) (views.coordinator y) called (ap views.coordinator same) e (Err e) refl gives

    inquire_by : (was is : NodeView D) (reply : Result inquiries.Inquiry Refusal) → IsCalled state honest moment left_since store shards coordinator was is old new
        → Answered state honest moment left_since was (of_coordinator (coordinator_calls.Inquire id)) (from_coordinator (told.Inquire reply)) is → InquireGives asked_inquire reply later → Goal later
    inquire_by (views.coordinator x) (views.coordinator y) reply called so gives = ⊎_elim
        (λ gone. down_end x y called so.0 gone reply so gives)
        (λ is_up. inquired_up x y called so.0 is_up reply so gives)
        (cases_Bool x.is_down)
    inquire_by (views.coordinator x) (views.shard y) reply called so gives = absurd so
    inquire_by (views.coordinator x) (views.refused e a b) reply called so gives = absurd so
    inquire_by (views.shard x) is reply called so gives = absurd called.before.named
    inquire_by (views.refused e a b) is reply called so gives = refused_end (views.refused e a b) is called so.0 e reply so.1 gives

    inquire_reply : (was is : NodeView D) (reply : Reply) → IsCalled state honest moment left_since store shards coordinator was is old new
        → Answered state honest moment left_since was (of_coordinator (coordinator_calls.Inquire id)) reply is → IsReplyTo (of_coordinator (coordinator_calls.Inquire id)) reply → GivesTo asked_inquire waits.inquire reply later → Goal later
    inquire_reply was is (from_coordinator (told.Inquire reply)) called so fits gives = inquire_by was is reply called so gives
    inquire_reply was is reply called so fits gives = absurd fits

  -- a drop at a shard that gave something
  module _ (s : ℕ) (verdict : VerdictValue) (held : Held) (tickets : List HeldTicket) (votes : List VoteValue) (has : v.holds.verdict ≡ Some verdict.id) (gave_ticket : v.holds.tickets ≡ as_tickets s held ++ tickets) (gave_vote : v.holds.votes ≡ as_votes held ++ votes) where
    abbrev asked_drop : WriteView
    asked_drop = record v { holds = record v.holds { tickets = tickets; votes = votes; verdict = None }; awaited = Some waits.drop_write }

    less : HoldsLess v.holds (record v.holds { tickets = tickets; votes = votes; verdict = Some verdict.id })
    less = record {
      id = refl;
      intent = λ i is. is;
      tickets = λ t there. subst (λ (ts : List HeldTicket). Contains ts t) (sym gave_ticket) (Contains-append_right (as_tickets s held) tickets t there);
      votes = λ x there. subst (λ (xs : List VoteValue). Contains xs x) (sym gave_vote) (Contains-append_right (as_votes held) votes x there);
      decided = refl;
      batch = λ b is. is;
      verdict = λ id is. has ∙ is;
      gave = λ is. let both : outward out.0 ≡ onward = sym out.1 ∙ is in absurd cc;
    }

    own_of : (o : Option WriteId) → v.holds.id ≡ o → (id : WriteId) × (v.holds.id ≡ Some id)
    own_of None is = let both : None ≡ Some verdict.id = sym ((right state honest moment left_since store shards old new now standing number slot is_cancelled v r flow).nothing is).verdict ∙ has in absurd cc
    own_of (Some id) is = (id, is)

    -- after a quiet call the write is dropped there
    pub dropped : (next : Nodes) (m : Machine) → Made next m → (back : VerdictValue) → back ≡ verdict → GoesToDrop asked_drop back.id later → Goal later
    dropped next m quiet back same (inl goes) =
        let id = own_of v.holds.id refl in
        subst Goal (sym (goes ∙ ap (λ (i : VerdictValue). at_rest (record v.holds { tickets = tickets; votes = votes; verdict = Some i.id })) same))
        (spends state honest moment left_since store shards old new now standing number slot is_cancelled v r flow next m quiet (record v.holds { tickets = tickets; votes = votes; verdict = Some verdict.id }) id.0 id.1 less refl)
    dropped next m quiet back same (inr stops_here) = quiet_end next m quiet stops_here.2

    drop_by : (was is : NodeView D) (back : VerdictValue) (reply : Result (Unit {0}) Refusal) → IsCalled state honest moment left_since store shards (shard s) was is old new
        → Answered state honest moment left_since was (of_shard s (shard_calls.DropWrite verdict (Some held))) (from_shard (told_by.DropWrite back reply)) is → GoesToDrop asked_drop back.id later → Goal later
    drop_by (views.shard x) (views.shard y) back reply called so gives = ⊎_elim
        (λ gone. dropped now.nodes now.machine
        (still_made state honest moment left_since store shards old new now standing (shard s) (views.shard x) (views.shard y) called only_now (ap views.shard (unchanged_if gone reply so))) back so.0 gives)
        (λ is_up.
        let up = shard_is_up state honest store shards old now standing s x called.before is_up in
        let id = own_of v.holds.id refl in
        let verdict_right = (((right state honest moment left_since store shards old new now standing number slot is_cancelled v r flow).own id.0 id.1).verdict verdict.id has).1 in
        let law = drops_quietly store shards before state honest now x s r standing.stands (shard_is_seen state honest store shards old now standing s x called.before is_up) y verdict.id verdict_right (so.1.drops up) in
        dropped (behind_shard s now.nodes y) now.machine (staged_made state honest moment left_since counts_now only_now store shards old new now standing s x y called so.1.stays is_up law.1) back so.0 gives)
        (cases_Bool x.is_down)
      where
        unchanged_if : x.is_down ≡ true → (answer : Result (Unit {0}) Refusal) → Answered state honest moment left_since (views.shard x) (of_shard s (shard_calls.DropWrite verdict (Some held))) (from_shard (told_by.DropWrite back answer)) (views.shard y) → y ≡ x
        unchanged_if gone (Ok done) then = absurd (true≢false (sym (then.1.down.1 gone)))
        unchanged_if gone (Err e) then = then.1.err.1
    drop_by (views.shard x) (views.coordinator y) back reply called so gives = absurd so
    drop_by (views.shard x) (views.refused e a b) back reply called so gives = absurd so
    drop_by (views.coordinator x) is back reply called so gives = absurd called.before.named
    drop_by (views.refused e a b) is back reply called so gives =
        dropped now.nodes now.machine (still_made state honest moment left_since store shards old new now standing (shard s) (views.refused e a b) is called only_now so.0) back so.1.0 gives

    drop_reply : (was is : NodeView D) (reply : Reply) → IsCalled state honest moment left_since store shards (shard s) was is old new
        → Answered state honest moment left_since was (of_shard s (shard_calls.DropWrite verdict (Some held))) reply is → IsReplyTo (of_shard s (shard_calls.DropWrite verdict (Some held))) reply → GivesTo asked_drop waits.drop_write reply later → Goal later
    drop_reply was is (from_shard (told_by.DropWrite back reply)) called so fits gives = drop_by was is back reply called so gives
    drop_reply was is reply called so fits gives = absurd fits

module _ {D : Type 0} (state : D → State) (honest : D → Type 0) (moment : D → ℕ) (left_since : D → ℕ → List ℕ → Type 0)
    (counts_now : (d : D) (t : ℕ) (c : List ℕ) → honest d → t ≤ moment d → left (state d) c → left_since d t c) (only_now : (d : D) (c : List ℕ) → honest d → left_since d (moment d) c → left (state d) c)
    (store shards : ℕ) where
  pub aborts_turn : (intent : IntentValue) → TurnsBy state honest moment left_since store shards (of_coordinator (coordinator_calls.Abort intent))
  aborts_turn intent old new slot is_cancelled v later c number now standing =
      let flow = flow_there state honest moment left_since store shards old new now standing number slot is_cancelled v _ c.slots in
      let gives = subst (λ (x : WriteView). MatchOption x.awaited ⊥ (λ awaited. GivesTo x awaited c.reply later)) c.asks.1.2 c.gives in
      let fits = answered_belongs state honest moment left_since c.was (of_coordinator (coordinator_calls.Abort intent)) c.reply c.is
      (may_ask_coordinator store shards c.was (coordinator_calls.Abort intent) c.node.before.named c.asks.0) c.answered in
      abort_reply state honest moment left_since counts_now only_now store shards old new slot is_cancelled v later number now standing flow.0 flow.1 c.asks.1.0 intent c.asks.1.1
      c.was c.is c.reply c.node c.answered fits gives c.slots

  pub inquiries_turn : (id : WriteId) → TurnsBy state honest moment left_since store shards (of_coordinator (coordinator_calls.Inquire id))
  inquiries_turn id old new slot is_cancelled v later c number now standing =
      let flow = flow_there state honest moment left_since store shards old new now standing number slot is_cancelled v _ c.slots in
      let gives = subst (λ (x : WriteView). MatchOption x.awaited ⊥ (λ awaited. GivesTo x awaited c.reply later)) c.asks.1.3 c.gives in
      let fits = answered_belongs state honest moment left_since c.was (of_coordinator (coordinator_calls.Inquire id)) c.reply c.is
      (may_ask_coordinator store shards c.was (coordinator_calls.Inquire id) c.node.before.named c.asks.0) c.answered in
      inquire_reply state honest moment left_since counts_now only_now store shards old new slot is_cancelled v later number now standing flow.0 flow.1 c.asks.1.0 id c.asks.1.2
      c.was c.is c.reply c.node c.answered fits gives c.slots

  pub drops_turn : (s : ℕ) (verdict : VerdictValue) (held : Option Held) → TurnsBy state honest moment left_since store shards (of_shard s (shard_calls.DropWrite verdict held))
  drops_turn s verdict None old new slot is_cancelled v later c number now standing = absurd c.asks.1
  drops_turn s verdict (Some held) old new slot is_cancelled v later c number now standing =
      let flow = flow_there state honest moment left_since store shards old new now standing number slot is_cancelled v _ c.slots in
      let gives = subst (λ (x : WriteView). MatchOption x.awaited ⊥ (λ awaited. GivesTo x awaited c.reply later)) c.asks.1.2.4 c.gives in
      let fits = answered_belongs state honest moment left_since c.was (of_shard s (shard_calls.DropWrite verdict (Some held))) c.reply c.is
      (may_ask_shard store shards s c.was (shard_calls.DropWrite verdict (Some held)) c.node.before.named c.asks.0) c.answered in
      drop_reply state honest moment left_since counts_now only_now store shards old new slot is_cancelled v later number now standing flow.0 flow.1 c.asks.1.0 s verdict held c.asks.1.2.0 c.asks.1.2.1
      c.asks.1.1 c.asks.1.2.2 c.asks.1.2.3 c.was c.is c.reply c.node c.answered fits gives c.slots
