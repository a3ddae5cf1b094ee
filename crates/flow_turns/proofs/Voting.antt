-- A vote that a write flow asks a shard for is a turn.
use Rattle.std.proofs.Common.{◌≡◌, ◌⊎◌, inl, inr, ⊎_elim, ◌≤◌, ◌++◌, ℕ, Bool, true, false, List, [], ◌∷◌, Some, None, Contains, refl, sym, ◌∙◌, ap, subst, arith}
use Rattle.std.specs.Prelude.{MatchOption}
use Rattle.std.proofs.lemmas.Bool.{cases_Bool}
use Rattle.std.proofs.lemmas.List.Elements.{All-contains, Contains-append_cases, Contains-append_right, Contains-push_cases}
use Rattle.flow_turns.proofs.WriteWords.{Answered, Calls, Down, Entry, FailsQuietly, GivesTo, GoesOut, HasItsCause, HeldTicket, HoldsLess, IsCalled, IsHolder, IsOnItsWay, IsQuietlyMade, IsReplyTo, IsRightTicket, Moment, NodeName, NodeView, Record, Refusal, Reply, Running, ShardView, StandsOver, State, Store, TicketValue, TurnsBy, WriteHolds, WriteView, answered_belongs, at_rest, devices_of, down_shard_fails, from_shard, held_ticket, knows, left, memory, of_shard, onward, outward, own_write, part, refused_fails, same_devices, shard, shard_is_seen, shard_is_up, still_made, stops, ticket_value, with_call, writing}
use Rattle.records.specs.Replays.{find_in_doubt}
use Rattle.shard.specs.declared.replies.VoteReply.{VoteReply}
use Rattle.shard.specs.declared.replies.VoteReply.TheVariants.{Yes, Later, No}
use Rattle.calls.specs.Views as views
use Rattle.calls.specs.declared.call.ShardCall.TheVariants as shard_calls
use Rattle.calls.specs.declared.reply.ShardReply.TheVariants as told_by
use Rattle.commit_flow.specs.Answering.{VoteGives}
use Rattle.commit_flow.specs.WriteHolds as waits
use Rattle.stores.specs.Causes.{IsCutOff}
use Rattle.stores.proofs.AbortCauses.{refused_tickets}
use Rattle.stores.proofs.FlowBegins.{alone}
use Rattle.turns.proofs.ShardPrepareSeam.{vote_turns_of}
use Rattle.flow_turns.proofs.Catching.{may_ask_shard}
use Rattle.flow_turns.proofs.Going.{IsFlow, Promises, asked_is, calls_shard, changes, conditions, fails_out, flow_of, flow_there, goes_out, going, holds_is, moved, right, stays_so}

module _ {D : Type 0} (state : D → State) (honest : D → Type 0) (moment : D → ℕ) (left_since : D → ℕ → List ℕ → Type 0)
    (counts_now : (d : D) (t : ℕ) (c : List ℕ) → honest d → t ≤ moment d → left (state d) c → left_since d t c) (only_now : (d : D) (c : List ℕ) → honest d → left_since d (moment d) c → left (state d) c)
    (store shards : ℕ) (old new : Store D) (slot : ℕ) (is_cancelled : Bool) (v later : WriteView) (number : ℕ) (now : Moment) (standing : StandsOver state honest store shards old now)
    (r : Running) (flow : IsFlow state honest moment left_since store shards old new now standing number slot is_cancelled v r) (way : IsOnItsWay v)
    (s : ℕ) (ticket : TicketValue) (others : List HeldTicket) (held : v.holds.tickets ≡ ticket_value (s, ticket) ∷ others) (own_id : v.holds.id ≡ Some ticket.id) where
  abbrev Goal : WriteView → Type 0
  Goal = Promises state honest moment left_since store shards old new now standing number slot is_cancelled v

  abbrev before : NodeName → List Record → Type 0
  before = stops state honest store shards old.devices

  abbrev mid : WriteView
  mid = record v { holds = record v.holds { tickets = others }; awaited = Some (waits.vote s) }

  abbrev w : Entry
  w = way.2.0.write

  has_ticket : Contains v.holds.tickets (held_ticket s ticket)
  has_ticket = subst (λ (ts : List HeldTicket). Contains ts (held_ticket s ticket)) (sym held) (alone (held_ticket s ticket) others)

  among : (x : HeldTicket) → Contains others x → Contains v.holds.tickets x
  among x has = subst (λ (ts : List HeldTicket). Contains ts x) (sym held) (Contains-append_right (ticket_value (s, ticket) ∷ []) others x has)

  less : (e : Refusal) → HoldsLess v.holds (record v.holds { tickets = others; way = outward (Some e); batch = None })
  less e = record {
    id = refl;
    intent = λ i is. is;
    tickets = among;
    votes = λ x has. has;
    decided = refl;
    batch = λ b is. absurd cc;
    verdict = λ id is. is;
    gave = λ is. let both : outward (Some e) ≡ onward = is in absurd cc;
  }

  -- all that it holds are this one and the others
  this_or_others : (x : HeldTicket) → Contains v.holds.tickets x → (x ≡ held_ticket s ticket) ⊎ Contains others x
  this_or_others x has = ⊎_elim
      (λ first. ⊎_elim (λ never. absurd (omega (arith, never.1))) (λ same. inl (sym same)) (Contains-push_cases [] (held_ticket s ticket) x first))
      (λ more. inr more)
      (Contains-append_cases (held_ticket s ticket ∷ []) others x (subst (λ (ts : List HeldTicket). Contains ts x) held has))

  holder : IsHolder now r v.holds w
  holder = record {
    flow = flow_of state honest moment left_since store shards old new now standing number slot is_cancelled v r flow way.2.0 way.2.1 way.2.2 way.1;
    holds = holds_is state honest moment left_since store shards old new now standing number slot is_cancelled v r flow;
  }

  abbrev mine : Entry
  mine = own_write way.2.0.write.id (changes state honest moment left_since store shards old new now standing number slot is_cancelled v r flow) (conditions state honest moment left_since store shards old new now standing number slot is_cancelled v r flow)

  right_ticket : IsRightTicket shards before now mine (held_ticket s ticket)
  right_ticket = All-contains (IsRightTicket shards before now mine) v.holds.tickets (held_ticket s ticket)
      ((right state honest moment left_since store shards old new now standing number slot is_cancelled v r flow).own way.2.0.write.id way.2.2).tickets has_ticket

  calls : Calls shards r.asked r.holds (shard s)
  calls = calls_shard shards s r v.holds mine (asked_is state honest moment left_since store shards old new now standing number slot is_cancelled v r flow)
      (holds_is state honest moment left_since store shards old new now standing number slot is_cancelled v r flow) way.2.2 right_ticket.there right_ticket.takes

  failed : (e : Refusal) → FailsQuietly state honest moment left_since store shards old new now standing (shard s) e → GoesOut mid.holds e later → Goal later
  failed e fails is = subst Goal (sym is)
      (fails_out state honest moment left_since store shards old new now standing number slot is_cancelled v r flow (shard s) e (record v.holds { tickets = others; way = outward (Some e); batch = None }) way.2.0.write.id fails calls way.2.2 way.1
      (less e) refl)

  module _ (x y : ShardView D) (called : IsCalled state honest moment left_since store shards (shard s) (views.shard x) (views.shard y) old new) (same : y ≡ x) where
    quiet : IsQuietlyMade state honest moment left_since store shards old new now standing now.nodes now.machine
    quiet = still_made state honest moment left_since store shards old new now standing (shard s) (views.shard x) (views.shard y) called only_now (ap views.shard same)

    devices : new.devices ≡ old.devices
    devices = same_devices state honest moment left_since store shards old new now standing (shard s) (views.shard x) (views.shard y) called (ap (λ (z : ShardView D). devices_of (views.shard z)) same)

    -- it is cut off if the shard no longer has the prepare
    cut_off : x.is_down ≡ false → find_in_doubt ticket.id (memory x).in_doubt ≡ None → IsCutOff now.nodes r r.holds
    cut_off is_up none = subst (IsCutOff now.nodes r) (sym holder.holds) (refused_tickets store shards before now r v.holds w way.2.0 (held_ticket s ticket) (memory x) standing.stands
        (record { running = holder.flow.there; asked = holder.flow.asked; holds = holder.holds; id = way.2.2; undecided = holder.flow.undecided }) way.2.1 has_ticket
        (knows store shards before now x s (shard_is_seen state honest store shards old now standing s x called.before is_up))
        (λ is. let both : None ≡ Some (part shards s w) = sym none ∙ is in absurd cc))

    told : (reply : VoteReply) → Answered state honest moment left_since (views.shard x) (of_shard s (shard_calls.Vote ticket)) (from_shard (told_by.Vote reply)) (views.shard y) → x.is_down ≡ false → VoteGives mid s reply later → Goal later
    told (Yes vote) so is_up is =
        let up = shard_is_up state honest store shards old now standing s x called.before is_up in
        let law = vote_turns_of store shards before state honest now x s w ticket vote r v.holds others standing.stands (shard_is_seen state honest store shards old now standing s x called.before is_up) holder
        has_ticket among this_or_others up (so.1.yes vote up refl) in
        let k : WriteHolds = record v.holds { tickets = others; votes = v.holds.votes ++ vote ∷ [] } in
        subst Goal (sym is) (going state honest moment left_since store shards old new now standing number slot is_cancelled v r flow now.nodes now.machine k None false way.2.0.write.id
        (with_call r (writing k) r.met now.machine) quiet.1 way.2.2 refl refl refl
        (moved state honest moment left_since store shards old new now standing number slot is_cancelled v devices _ law.0, law.1))
    told (Later t) so is_up is =
        let back = so.1.back t refl in
        let whole : record v.holds { tickets = ticket_value (s, t) ∷ others } ≡ v.holds = ap (λ (ts : List HeldTicket). make ts) (ap (λ (x : TicketValue). ticket_value (s, x) ∷ others) back ∙ sym held) in
        stays_so state honest moment left_since store shards old new now standing number slot is_cancelled v r flow now.nodes now.machine quiet later None false way.2.0.write.id way.2.2 (is ∙ ap at_rest whole)
      where
        make : List HeldTicket → WriteHolds
        make ts = record v.holds { tickets = ts }
    told (No e) so is_up is = ⊎_elim
        (λ gone. let both : true ≡ false = sym gone.1 ∙ is_up in absurd cc)
        (λ aborted. subst Goal (sym is) (goes_out state honest moment left_since store shards old new now standing number slot is_cancelled v r flow now.nodes now.machine quiet
        (record v.holds { tickets = others; way = outward (Some e); batch = None }) way.2.0.write.id e way.2.2 way.1 (less e) refl
        (λ ran here. subst (HasItsCause shards quiet.0.node now ran r) (sym aborted.0) (inl (cut_off is_up (aborted.1 (shard_is_up state honest store shards old now standing s x called.before is_up)))))))
        (so.1.no e refl)

    by_down : (reply : VoteReply) → Answered state honest moment left_since (views.shard x) (of_shard s (shard_calls.Vote ticket)) (from_shard (told_by.Vote reply)) (views.shard y) → VoteGives mid s reply later → Goal later
    by_down reply so is = ⊎_elim
        (λ gone. failed Down (down_shard_fails state honest moment left_since counts_now only_now store shards old new now standing s x y Down called same gone refl)
        (subst (λ (a : VoteReply). VoteGives mid s a later) (so.1.down gone) is))
        (λ is_up. told reply so is_up is)
        (cases_Bool x.is_down)

  vote_by : (was is : NodeView D) (reply : VoteReply) → IsCalled state honest moment left_since store shards (shard s) was is old new
      → Answered state honest moment left_since was (of_shard s (shard_calls.Vote ticket)) (from_shard (told_by.Vote reply)) is → VoteGives mid s reply later → Goal later
  vote_by (views.shard x) (views.shard y) reply called so gives = by_down x y called so.0 reply so gives
  vote_by (views.shard x) (views.coordinator y) reply called so gives = absurd so
  vote_by (views.shard x) (views.refused e a b) reply called so gives = absurd so
  vote_by (views.coordinator x) is reply called so gives = absurd called.before.named
  vote_by (views.refused e a b) is reply called so gives = failed e (refused_fails state honest moment left_since counts_now only_now store shards old new now standing (shard s) e e a b is called so.0 refl)
      (subst (λ (x : VoteReply). VoteGives mid s x later) so.1 gives)

  vote_reply : (was is : NodeView D) (reply : Reply) → IsCalled state honest moment left_since store shards (shard s) was is old new
      → Answered state honest moment left_since was (of_shard s (shard_calls.Vote ticket)) reply is → IsReplyTo (of_shard s (shard_calls.Vote ticket)) reply → GivesTo mid (waits.vote s) reply later → Goal later
  vote_reply was is (from_shard (told_by.Vote reply)) called so fits gives = vote_by was is reply called so gives
  vote_reply was is reply called so fits gives = absurd fits

module _ {D : Type 0} (state : D → State) (honest : D → Type 0) (moment : D → ℕ) (left_since : D → ℕ → List ℕ → Type 0)
    (counts_now : (d : D) (t : ℕ) (c : List ℕ) → honest d → t ≤ moment d → left (state d) c → left_since d t c) (only_now : (d : D) (c : List ℕ) → honest d → left_since d (moment d) c → left (state d) c)
    (store shards : ℕ) where
  pub vote_turns : (s : ℕ) (ticket : TicketValue) → TurnsBy state honest moment left_since store shards (of_shard s (shard_calls.Vote ticket))
  vote_turns s ticket old new slot is_cancelled v later c number now standing =
      let flow = flow_there state honest moment left_since store shards old new now standing number slot is_cancelled v _ c.slots in
      let gives = subst (λ (x : WriteView). MatchOption x.awaited ⊥ (λ awaited. GivesTo x awaited c.reply later)) c.asks.1.2.2 c.gives in
      let fits = answered_belongs state honest moment left_since c.was (of_shard s (shard_calls.Vote ticket)) c.reply c.is (may_ask_shard store shards s c.was (shard_calls.Vote ticket) c.node.before.named c.asks.0) c.answered in
      vote_reply state honest moment left_since counts_now only_now store shards old new slot is_cancelled v later number now standing flow.0 flow.1 c.asks.1.0 s ticket c.asks.1.2.0 c.asks.1.2.1 c.asks.1.1
      c.was c.is c.reply c.node c.answered fits gives c.slots
