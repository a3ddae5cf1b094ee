-- A flush that a write flow makes, of a shard or of the coordinator, is a turn.
use Rattle.std.proofs.Common.{◌≡◌, ◌≢◌, ◌⊎◌, inl, inr, ◌≤◌, ◌<◌, ℕ, Bool, true, false, List, ◌∷◌, Result, Ok, Err, Option, Some, None, All, refl, sym, ◌∙◌, ap, subst}
use Rattle.std.specs.Prelude.{MatchOption}
use Rattle.std.proofs.lemmas.List.Elements.{All-head}
use Rattle.flow_turns.proofs.WriteWords.{Answered, BatchValue, Calls, CatchUpGives, Entry, FailsQuietly, GivesTo, GoesOn, GoesOut, HasShard, HeldTicket, IsCalled, IsOnItsWay, IsQuietlyMade, IsReplyTo, IsRightTicket, Machine, Moment, NodeName, NodeView, Nodes, ProgressGives, Refusal, Reply, Running, StandsOver, State, Store, TicketValue, TurnsBy, WriteHolds, WriteId, WriteView, answered_belongs, at_rest, coordinator, from_coordinator, from_shard, left, of_coordinator, of_shard, onward, own_write, shard, stops, ticket_value}
use Rattle.calls.specs.declared.call.CoordinatorCall.TheVariants as coordinator_calls
use Rattle.calls.specs.declared.call.ShardCall.TheVariants as shard_calls
use Rattle.calls.specs.declared.reply.CoordinatorReply.TheVariants as told
use Rattle.calls.specs.declared.reply.ShardReply.TheVariants as told_by
use Rattle.catch_up.specs.Held.{flushing}
use Rattle.commit_flow.specs.Answering.{FlushGives}
use Rattle.commit_flow.specs.WriteHolds as waits
use Rattle.commit_flow.specs.Writing.{Waits}
use Rattle.flow_turns.proofs.Flushed.{coordinator_flushed, shard_flushed}
use Rattle.flow_turns.proofs.Catching.{calls_this, fails_at, may_ask_coordinator, may_ask_shard}
use Rattle.flow_turns.proofs.Going.{IsFlow, Promises, asked_is, batch_stays, calls_coordinator, calls_shard, changes, conditions, flow_there, holds_is, keeps, right}

module _ {D : Type 0} (state : D → State) (honest : D → Type 0) (moment : D → ℕ) (left_since : D → ℕ → List ℕ → Type 0)
    (counts_now : (d : D) (t : ℕ) (c : List ℕ) → honest d → t ≤ moment d → left (state d) c → left_since d t c) (only_now : (d : D) (c : List ℕ) → honest d → left_since d (moment d) c → left (state d) c)
    (store shards : ℕ) (old new : Store D) (slot : ℕ) (is_cancelled : Bool) (v later : WriteView) (number : ℕ) (now : Moment) (standing : StandsOver state honest store shards old now)
    (r : Running) (flow : IsFlow state honest moment left_since store shards old new now standing number slot is_cancelled v r) where
  abbrev Goal : WriteView → Type 0
  Goal = Promises state honest moment left_since store shards old new now standing number slot is_cancelled v

  abbrev Made : Nodes → Machine → Type 0
  Made = IsQuietlyMade state honest moment left_since store shards old new now standing

  abbrev Fails : NodeName → Refusal → Type 0
  Fails = FailsQuietly state honest moment left_since store shards old new now standing

  -- the flow goes on with what it held
  as_it_was : (next : Nodes) (m : Machine) (caught : Option ℕ) (flushed : Bool) (id : WriteId) → Made next m → v.holds.id ≡ Some id → later ≡ record (at_rest v.holds) { caught = caught; flushed = flushed } → Goal later
  as_it_was next m caught flushed id quiet has_id is = subst Goal (sym is)
      (keeps state honest moment left_since store shards old new now standing number slot is_cancelled v r flow next m quiet v.holds.batch caught flushed id has_id
      (batch_stays state honest moment left_since store shards old new now standing number slot is_cancelled v r flow next m quiet))

  -- a flush of a node, before the decision
  flush_by : (n : NodeName) (m : Machine) (way : IsOnItsWay v) (mid : WriteView) (was_full : Bool) → mid.holds ≡ v.holds → Calls shards r.asked r.holds n → (answer : Result (Unit {0}) Refusal)
      → ((done : Unit {0}) → answer ≡ Ok done → (next : Nodes) × Made next m) → ((e : Refusal) → answer ≡ Err e → Fails n e) → FlushGives mid was_full answer later → Goal later
  flush_by n m way mid was_full same calls (Ok done) well ill gives =
      let made = well done refl in
      as_it_was made.0 m mid.caught was_full way.2.0.write.id made.1 way.2.2 (subst (λ (h : WriteHolds). later ≡ record (at_rest h) { caught = mid.caught; flushed = was_full }) same gives)
  flush_by n m way mid was_full same calls (Err e) well ill gives =
      fails_at state honest moment left_since counts_now only_now store shards old new slot is_cancelled v later number now standing r flow way n e (ill e refl) calls
      (subst (λ (h : WriteHolds). GoesOut h e later) same gives)

  module _ (s : ℕ) (there : s < shards) (was is : NodeView D) (called : IsCalled state honest moment left_since store shards (shard s) was is old new) (way : IsOnItsWay v) where
    abbrev mine : Entry
    mine = own_write way.2.0.write.id (changes state honest moment left_since store shards old new now standing number slot is_cancelled v r flow) (conditions state honest moment left_since store shards old new now standing number slot is_cancelled v r flow)

    well_done : (answer : Result (Unit {0}) Refusal) → Answered state honest moment left_since was (of_shard s shard_calls.Flush) (from_shard (told_by.Flush answer)) is
        → (done : Unit {0}) → answer ≡ Ok done → (next : Nodes) × Made next now.machine
    well_done (Ok x) so done same = shard_flushed state honest moment left_since counts_now only_now store shards old new now standing s was is (Ok x) called so
    well_done (Err e) so done same = absurd cc

    ill_done : (answer : Result (Unit {0}) Refusal) → Answered state honest moment left_since was (of_shard s shard_calls.Flush) (from_shard (told_by.Flush answer)) is
        → (e : Refusal) → answer ≡ Err e → Fails (shard s) e
    ill_done (Ok x) so e same = absurd cc
    ill_done (Err f) so e same = subst (Fails (shard s)) (let one : f ≡ e = cc in one) (shard_flushed state honest moment left_since counts_now only_now store shards old new now standing s was is (Err f) called so)

    plain_reply : (mid : WriteView) (was_full : Bool) → mid.holds ≡ v.holds → Calls shards r.asked r.holds (shard s) → (answer : Result (Unit {0}) Refusal)
        → Answered state honest moment left_since was (of_shard s shard_calls.Flush) (from_shard (told_by.Flush answer)) is → FlushGives mid was_full answer later → Goal later
    plain_reply mid was_full same calls answer so gives = flush_by (shard s) now.machine way mid was_full same calls answer (well_done answer so) (ill_done answer so) gives

    catching_by : (mid : WriteView) → mid.holds ≡ v.holds → Calls shards r.asked r.holds (shard s) → (answer : Result (Unit {0}) Refusal)
        → Answered state honest moment left_since was (of_shard s shard_calls.Flush) (from_shard (told_by.Flush answer)) is
        → CatchUpGives mid flushing (from_shard (told_by.Flush answer)) later → Goal later
    catching_by mid same calls (Ok done) so gives =
        let made = well_done (Ok done) so done refl in
        let then = subst (λ p. ProgressGives mid gives.call.held.shard p later) gives.gives gives.then_gives in
        let batch : gives.call.held.batch ≡ v.holds.batch = gives.holds ∙ ap (λ (h : WriteHolds). h.batch) same in
        as_it_was made.0 now.machine None false way.2.0.write.id made.1 way.2.2
        (subst (λ (b : Option BatchValue). later ≡ at_rest (record v.holds { batch = b })) batch (subst (λ (h : WriteHolds). later ≡ at_rest (record h { batch = gives.call.held.batch })) same then))
    catching_by mid same calls (Err e) so gives =
        let then = subst (λ p. ProgressGives mid gives.call.held.shard p later) gives.gives gives.then_gives in
        fails_at state honest moment left_since counts_now only_now store shards old new slot is_cancelled v later number now standing r flow way (shard s) e (ill_done (Err e) so e refl) calls
        (subst (λ (h : WriteHolds). GoesOut h e later) same then)

    shard_reply : (reply : Reply) → IsReplyTo (of_shard s shard_calls.Flush) reply → Answered state honest moment left_since was (of_shard s shard_calls.Flush) reply is
        → (mid : WriteView)
        → (HasShard shards v s × (Waits v v.holds (waits.catch_up flushing) mid ⊎ Waits v v.holds (waits.flush_to_prepare s) mid))
        ⊎ ((t : TicketValue) × (others : List HeldTicket) × (v.holds.tickets ≡ ticket_value (s, t) ∷ others) × Waits v v.holds (waits.flush_to_vote s) mid)
        → MatchOption mid.awaited ⊥ (λ awaited. GivesTo mid awaited reply later) → Goal later
    shard_reply (from_shard (told_by.Flush answer)) fits so mid (inl (has, inl then)) gives = catching_by (record v { awaited = Some (waits.catch_up flushing) }) refl
        (calls_this state honest moment left_since counts_now only_now store shards old new slot is_cancelled v later number now standing r flow way s there has) answer so
        (subst (λ (x : WriteView). MatchOption x.awaited ⊥ (λ awaited. GivesTo x awaited (from_shard (told_by.Flush answer)) later)) then gives)
    shard_reply (from_shard (told_by.Flush answer)) fits so mid (inl (has, inr then)) gives = plain_reply (record v { awaited = Some (waits.flush_to_prepare s) }) true refl
        (calls_this state honest moment left_since counts_now only_now store shards old new slot is_cancelled v later number now standing r flow way s there has) answer so
        (subst (λ (x : WriteView). MatchOption x.awaited ⊥ (λ awaited. GivesTo x awaited (from_shard (told_by.Flush answer)) later)) then gives)
    shard_reply (from_shard (told_by.Flush answer)) fits so mid (inr (t, others, held, then)) gives = plain_reply (record v { awaited = Some (waits.flush_to_vote s) }) false refl calls answer so
        (subst (λ (x : WriteView). MatchOption x.awaited ⊥ (λ awaited. GivesTo x awaited (from_shard (told_by.Flush answer)) later)) then gives)
      where
        own : All (IsRightTicket shards (stops state honest store shards old.devices) now mine) v.holds.tickets
        own = ((right state honest moment left_since store shards old new now standing number slot is_cancelled v r flow).own way.2.0.write.id way.2.2).tickets

        ticket : IsRightTicket shards (stops state honest store shards old.devices) now mine (ticket_value (s, t))
        ticket = All-head (IsRightTicket shards (stops state honest store shards old.devices) now mine) (ticket_value (s, t)) others (subst (All (IsRightTicket shards (stops state honest store shards old.devices) now mine)) held own)

        calls : Calls shards r.asked r.holds (shard s)
        calls = calls_shard shards s r v.holds mine (asked_is state honest moment left_since store shards old new now standing number slot is_cancelled v r flow)
            (holds_is state honest moment left_since store shards old new now standing number slot is_cancelled v r flow) way.2.2 there ticket.takes
    shard_reply reply fits so mid asks gives = absurd fits

  -- the coordinator's
  module _ (was is : NodeView D) (called : IsCalled state honest moment left_since store shards coordinator was is old new) where
    to_decide : (way : IsOnItsWay v) (answer : Result (Unit {0}) Refusal) → Answered state honest moment left_since was (of_coordinator coordinator_calls.Flush) (from_coordinator (told.Flush answer)) is
        → FlushGives (record v { awaited = Some waits.flush_to_decide }) true answer later → Goal later
    to_decide way (Ok done) so gives =
        let made = coordinator_flushed state honest moment left_since counts_now only_now store shards old new now standing was is (Ok done) called so in
        as_it_was made.0 _ v.caught true way.2.0.write.id made.2 way.2.2 gives
    to_decide way (Err e) so gives = fails_at state honest moment left_since counts_now only_now store shards old new slot is_cancelled v later number now standing r flow way coordinator e
        (coordinator_flushed state honest moment left_since counts_now only_now store shards old new now standing was is (Err e) called so)
        (calls_coordinator shards r _ _ (asked_is state honest moment left_since store shards old new now standing number slot is_cancelled v r flow)) gives

    -- a write that has decided has an id
    id_of_decided : v.holds.decided ≢ None → (o : Option WriteId) → v.holds.id ≡ o → (id : WriteId) × (v.holds.id ≡ Some id)
    id_of_decided some None is = absurd (some ((right state honest moment left_since store shards old new now standing number slot is_cancelled v r flow).nothing is).decided)
    id_of_decided some (Some id) is = (id, is)

    to_outcome : v.holds.decided ≢ None → (answer : Result (Unit {0}) Refusal) → Answered state honest moment left_since was (of_coordinator coordinator_calls.Flush) (from_coordinator (told.Flush answer)) is
        → GoesOn v.holds later → Goal later
    to_outcome some (Ok done) so gives =
        let made = coordinator_flushed state honest moment left_since counts_now only_now store shards old new now standing was is (Ok done) called so in
        let id = id_of_decided some v.holds.id refl in
        as_it_was made.0 _ None false id.0 made.2 id.1 gives
    to_outcome some (Err e) so gives =
        let made = coordinator_flushed state honest moment left_since counts_now only_now store shards old new now standing was is (Err e) called so in
        let id = id_of_decided some v.holds.id refl in
        as_it_was made.0 now.machine None false id.0 made.1 id.1 gives

    coordinator_reply : (reply : Reply) → IsReplyTo (of_coordinator coordinator_calls.Flush) reply → Answered state honest moment left_since was (of_coordinator coordinator_calls.Flush) reply is → (mid : WriteView)
        → (IsOnItsWay v × Waits v v.holds waits.flush_to_decide mid × (v.flushed ≡ false)) ⊎ ((v.holds.way ≡ onward) × (v.holds.decided ≢ None) × Waits v v.holds waits.flush_to_outcome mid)
        → MatchOption mid.awaited ⊥ (λ awaited. GivesTo mid awaited reply later) → Goal later
    coordinator_reply (from_coordinator (told.Flush answer)) fits so mid (inl (way, then, first)) gives =
        to_decide way answer so (subst (λ (x : WriteView). MatchOption x.awaited ⊥ (λ awaited. GivesTo x awaited (from_coordinator (told.Flush answer)) later)) then gives)
    coordinator_reply (from_coordinator (told.Flush answer)) fits so mid (inr (way, some, then)) gives =
        to_outcome some answer so (subst (λ (x : WriteView). MatchOption x.awaited ⊥ (λ awaited. GivesTo x awaited (from_coordinator (told.Flush answer)) later)) then gives)
    coordinator_reply reply fits so mid asks gives = absurd fits

module _ {D : Type 0} (state : D → State) (honest : D → Type 0) (moment : D → ℕ) (left_since : D → ℕ → List ℕ → Type 0)
    (counts_now : (d : D) (t : ℕ) (c : List ℕ) → honest d → t ≤ moment d → left (state d) c → left_since d t c) (only_now : (d : D) (c : List ℕ) → honest d → left_since d (moment d) c → left (state d) c)
    (store shards : ℕ) where
  pub shard_flush_turns : (s : ℕ) → TurnsBy state honest moment left_since store shards (of_shard s shard_calls.Flush)
  shard_flush_turns s old new slot is_cancelled v later c number now standing =
      let flow = flow_there state honest moment left_since store shards old new now standing number slot is_cancelled v _ c.slots in
      let fits = answered_belongs state honest moment left_since c.was (of_shard s shard_calls.Flush) c.reply c.is (may_ask_shard store shards s c.was shard_calls.Flush c.node.before.named c.asks.0) c.answered in
      shard_reply state honest moment left_since counts_now only_now store shards old new slot is_cancelled v later number now standing flow.0 flow.1 s c.node.before.there c.was c.is c.node c.asks.1.0
      c.reply fits c.answered c.mid c.asks.1.1 c.gives c.slots

  pub coordinator_flush_turns : TurnsBy state honest moment left_since store shards (of_coordinator coordinator_calls.Flush)
  coordinator_flush_turns old new slot is_cancelled v later c number now standing =
      let flow = flow_there state honest moment left_since store shards old new now standing number slot is_cancelled v _ c.slots in
      let fits = answered_belongs state honest moment left_since c.was (of_coordinator coordinator_calls.Flush) c.reply c.is (may_ask_coordinator store shards c.was coordinator_calls.Flush c.node.before.named c.asks.0) c.answered in
      coordinator_reply state honest moment left_since counts_now only_now store shards old new slot is_cancelled v later number now standing flow.0 flow.1 c.was c.is c.node c.reply fits c.answered c.mid c.asks.1 c.gives c.slots
