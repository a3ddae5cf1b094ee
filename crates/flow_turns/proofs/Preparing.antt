-- A prepare that a write flow asks a shard for is a turn.
use Rattle.std.proofs.Common.{◌≡◌, ◌≢◌, ◌⊎◌, inl, inr, ⊎_elim, ◌≤◌, ◌<◌, ◌++◌, ℕ, Bool, true, false, List, [], ◌∷◌, Result, Ok, Err, Option, Some, None, Contains, refl, sym, ◌∙◌, ap, subst, arith, if◌then◌else◌}
use Rattle.std.specs.Prelude.{MatchOption}
use Rattle.std.proofs.lemmas.Bool.{cases_Bool}
use Rattle.flow_turns.proofs.WriteWords.{Absent, Answered, Calls, Collected, Down, Entry, Exists, FailsQuietly, Full, GivesTo, HasItsCause, HoldsLess, IntentValue, IsCalled, IsHolder, IsIntent, IsMade, IsOnItsWay, IsQuietlyMade, IsReplyTo, Moment, NoMemory, NodeName, NodeView, Nodes, NotAfter, Record, Refusal, Reply, Running, ShardView, StandsOver, State, Store, TakesMemory, TicketValue, TurnsBy, Want, WriteHolds, WriteView, answered_belongs, at_rest, behind_shard, devices_of, down, down_shard_fails, fails_by, from_shard, held_ticket, inside_by, knows, left, memory, of_shard, onward, outward, part, refused_fails, same_devices, shard, shard_is_seen, shard_is_up, shows_nodes, still_given, still_made, still_named, still_of, still_sound, still_within, stops, takes_part, ticket_value, up, with_call, writing}
use Rattle.refusal.specs.declared.refusal.Refusal.TheVariants.{Busy, Precondition}
use Rattle.refusal.proofs.Cases.{is_full}
use Rattle.records.specs.declared.record.Record.TheVariants.{Prepare}
use Rattle.journal.specs.Records.{HasNoRoom}
use Rattle.shard.specs.Calls.{PrepareRefused, PreparesAt}
use Rattle.shard.specs.Shards.{AskBelow, IsBelow, IsBroken, IsBusy, own_part}
use Rattle.shard.proofs.Tested.{part_prepared}
use Rattle.calls.specs.ShardAnswers.{Stays}
use Rattle.calls.specs.Views as views
use Rattle.calls.specs.declared.call.ShardCall.TheVariants as shard_calls
use Rattle.calls.specs.declared.reply.ShardReply.TheVariants as told_by
use Rattle.commit_flow.specs.Answering.{PrepareGives}
use Rattle.commit_flow.specs.WriteHolds as waits
use Rattle.commit_flow.specs.Writing.{GaveBelow}
use Rattle.laws.specs.Shards.{ShardMeans}
use Rattle.stores.specs.Causes.{IsBelow as IsBelowCause}
use Rattle.stores.specs.Flows.{HeldVote}
use Rattle.stores.specs.Held.{HoldsOf}
use Rattle.stores.specs.PrepareLaws.{IsPreparing}
use Rattle.stores.proofs.PrepareTurn.{broken_shards_have_cause, busy_shards_have_cause, full_shards_have_cause, part_condition}
use Rattle.turns.specs.ShardSeamLaws.{ShardIsSeen}
use Rattle.turns.proofs.ShardPrepareSeam.{not_prepared, prepare_turns_of}
use Rattle.turns.proofs.ShardSeam.{elsewhere, here, known_left, own_is}
use Rattle.flow_turns.proofs.Catching.{may_ask_shard}
use Rattle.flow_turns.proofs.Going.{IsFlow, Promises, asks_own, calls_shard, flow_of, flow_there, goes_out, going, holds_is, moved, stays_so}

module _ {D : Type 0} (state : D → State) (honest : D → Type 0) (moment : D → ℕ) (left_since : D → ℕ → List ℕ → Type 0)
    (counts_now : (d : D) (t : ℕ) (c : List ℕ) → honest d → t ≤ moment d → left (state d) c → left_since d t c) (only_now : (d : D) (c : List ℕ) → honest d → left_since d (moment d) c → left (state d) c)
    (store shards : ℕ) (old new : Store D) (slot : ℕ) (is_cancelled : Bool) (v later : WriteView) (number : ℕ) (now : Moment) (standing : StandsOver state honest store shards old now)
    (r : Running) (flow : IsFlow state honest moment left_since store shards old new now standing number slot is_cancelled v r) (way : IsOnItsWay v)
    (s : ℕ) (intent : IntentValue) (there : s < shards) (has : v.holds.intent ≡ Some intent) (has_id : v.holds.id ≡ Some intent.write.id) (takes : takes_part shards s intent.write ≡ true) (whole : IsIntent intent.write)
    (below : GaveBelow v s) (again : Bool) (bits : ℕ) where
  abbrev Goal : WriteView → Type 0
  Goal = Promises state honest moment left_since store shards old new now standing number slot is_cancelled v

  abbrev before : NodeName → List Record → Type 0
  before = stops state honest store shards old.devices

  abbrev w : Entry
  w = intent.write

  abbrev mid : WriteView
  mid = record v { caught = None; holds = record v.holds { intent = None }; awaited = Some (waits.prepare s again bits) }

  holder : IsHolder now r v.holds w
  holder = record {
    flow = flow_of state honest moment left_since store shards old new now standing number slot is_cancelled v r flow intent has has_id way.1;
    holds = holds_is state honest moment left_since store shards old new now standing number slot is_cancelled v r flow;
  }

  calls : Calls shards r.asked r.holds (shard s)
  calls = calls_shard shards s r v.holds w (asks_own state honest moment left_since store shards old new now standing number slot is_cancelled v r flow intent has has_id)
      (holds_is state honest moment left_since store shards old new now standing number slot is_cancelled v r flow) has_id there takes

  -- this shard gave nothing yet
  gave_nothing : HoldsOf v.holds s → ⊥
  gave_nothing (inl (t, held, same)) = let lt = below.0 t held in omega (arith, lt, same)
  gave_nothing (inr (x, held, same)) = let none = (subst (λ (votes : List HeldVote). Contains votes x) below.1 held).1 in omega (arith, none)

  -- with the intent back it holds what it held, and goes out, or waits for a flush
  module _ (back : IntentValue) (same_back : back ≡ intent) (e : Refusal) where
    intent_back : Some back ≡ v.holds.intent
    intent_back = ap (λ (i : IntentValue). Some i) same_back ∙ sym has

    less : HoldsLess v.holds (record v.holds { intent = Some back; way = outward (Some e); batch = None })
    less = record {
      id = refl;
      intent = λ i is. sym intent_back ∙ is;
      tickets = λ t held. held;
      votes = λ x held. held;
      decided = refl;
      batch = λ b is. absurd cc;
      verdict = λ id is. is;
      gave = λ is. let both : outward (Some e) ≡ onward = is in absurd cc;
    }

    refused_with : (next : Nodes) → (quiet : IsQuietlyMade state honest moment left_since store shards old new now standing next now.machine) → ((ran : Moment) → ran.nodes ≡ next → HasItsCause shards quiet.0.node now ran r e)
        → PrepareGives mid s again back (Err e) later → Goal later
    refused_with next quiet cause gives = by_full (is_full e) again refl
      where
        make : Option IntentValue → WriteHolds
        make o = record v.holds { intent = o }

        wait : e ≡ Full → again ≡ false → Goal later
        wait full first = stays_so state honest moment left_since store shards old new now standing number slot is_cancelled v r flow next now.machine quiet later (Some s) false w.id has_id
            (gives.0 full first ∙ ap (λ (k : WriteHolds). record (at_rest k) { caught = Some s }) (ap make intent_back))

        out : (e ≢ Full) ⊎ (again ≡ true) → Goal later
        out why = subst Goal (sym (gives.1 why)) (goes_out state honest moment left_since store shards old new now standing number slot is_cancelled v r flow next now.machine quiet
            (record v.holds { intent = Some back; way = outward (Some e); batch = None }) w.id e has_id way.1 less refl cause)

        by_full : (e ≡ Full) ⊎ (e ≢ Full) → (b : Bool) → again ≡ b → Goal later
        by_full (inl full) true at = out (inr at)
        by_full (inl full) false at = wait full at
        by_full (inr other) b at = out (inl other)

    failed : FailsQuietly state honest moment left_since store shards old new now standing (shard s) e → PrepareGives mid s again back (Err e) later → Goal later
    failed fails gives = refused_with fails.0 fails.1 (λ ran same. (fails.2 r ran same calls).0) gives

  module _ (x y : ShardView D) (called : IsCalled state honest moment left_since store shards (shard s) (views.shard x) (views.shard y) old new) (is_up : x.is_down ≡ false) where
    seen : ShardIsSeen store shards s now.nodes x
    seen = shard_is_seen state honest store shards old now standing s x called.before is_up

    own_here : own_part x w ≡ part shards s w
    own_here = own_is store shards before now x s seen w

    -- the shard has staged it
    module _ (stays : Stays x y) (t : TicketValue) (prepares : PreparesAt state honest x w t y) where
      abbrev next : Nodes
      next = behind_shard s now.nodes y

      devices : new.devices ≡ old.devices
      devices = same_devices state honest moment left_since store shards old new now standing (shard s) (views.shard x) (views.shard y) called (ap (λ (z : ShardView D). devices_of (views.shard z)) stays)

      y_up : y.is_down ≡ false
      y_up = ap (λ (z : ShardView D). z.is_down) stays ∙ is_up

      made : IsMade state honest moment left_since store shards old new now next now.machine
      made =
          let shows = shows_nodes state honest moment left_since store shards old new now standing (shard s) (views.shard x) (views.shard y) called next
          (record { others = elsewhere s now.nodes y; open_writes = λ ne. refl; given = λ ne. refl })
          (here s now.nodes y ∙ sym (ap (λ b. if b then down else up y.durable y.staged) y_up))
          (standing.nodes.open_ids ∙ sym called.memory.0) (standing.nodes.given ∙ sym called.memory.1) in
          record {
            sound = still_sound state honest moment left_since store shards old new now standing only_now devices;
            nodes = shows;
            named = still_named state honest moment left_since store shards old new now standing only_now devices next refl;
            fails = fails_by state honest moment left_since store shards old new now standing (shard s) (views.shard x) (views.shard y) called next shows;
            inside = inside_by state honest moment left_since store shards old new now standing (still_within state honest moment left_since store shards old new now standing only_now devices) now.machine;
            given = still_given state honest moment left_since store shards old new now standing devices;
          }

      prepared : (back : IntentValue) → back ≡ intent → PrepareGives mid s again back (Ok t) later → Goal later
      prepared back same_back is =
          let law = prepare_turns_of store shards before state honest now x y s w t r v.holds standing.stands seen holder takes prepares in
          subst Goal (sym (is ∙ ap (λ (o : Option IntentValue). at_rest (record v.holds { intent = o; tickets = v.holds.tickets ++ ticket_value (s, t) ∷ [] })) (ap (λ (i : IntentValue). Some i) same_back ∙ sym has)))
          (going state honest moment left_since store shards old new now standing number slot is_cancelled v r flow next now.machine (record v.holds { tickets = v.holds.tickets ++ ticket_value (s, t) ∷ [] }) None false w.id
          (with_call r (writing (record v.holds { tickets = v.holds.tickets ++ held_ticket s t ∷ [] })) r.met now.machine) made has_id refl refl refl
          (moved state honest moment left_since store shards old new now standing number slot is_cancelled v devices _ law.1.0, law.1.1))

    -- it has refused it
    module _ (same : y ≡ x) (e : Refusal) (given_up : PrepareRefused x w e) where
      abbrev quiet : IsQuietlyMade state honest moment left_since store shards old new now standing now.nodes now.machine
      quiet = still_of state honest moment left_since store shards old new now standing (shard s)
          (still_made state honest moment left_since store shards old new now standing (shard s) (views.shard x) (views.shard y) called only_now (ap views.shard same))

      abbrev asks : IsPreparing store shards before now r w s
      asks = record {
        stands = standing.stands;
        flow = holder.flow;
        there = there;
        takes = takes;
        memory = memory x;
        knows = knows store shards before now x s seen;
        fresh = not_prepared store shards before now x s w r v.holds standing.stands seen holder way.0 gave_nothing;
      }

      means : ShardMeans shards s now.machine.log now.machine.horizon now.machine.horizon (memory x)
      means = standing.stands.listed s (x.durable ++ x.staged) there (known_left store shards before now x s seen standing.stands)

      collected : AskBelow (memory x).horizon (part shards s w).conditions → IsBelowCause now.machine.horizon r r.asked
      collected ask =
          let is = part_condition shards s w ask.condition ask.there in
          let place = below_place (ask.condition).want refl ask.below in
          subst (IsBelowCause now.machine.horizon r) (sym holder.flow.asked) (place.0, (ask.condition, is.0, place.1), omega (arith, place.2, means.horizon))
        where
          below_place : (want : Want) → (ask.condition).want ≡ want → IsBelow (memory x).horizon want → (place : ℕ) × ((ask.condition).want ≡ NotAfter place) × (place < (memory x).horizon)
          below_place (NotAfter place) is low = (place, is, low)
          below_place Exists is low = absurd low
          below_place Absent is low = absurd low

      cause : (e ≡ Collected) ⊎ ((e ≡ Busy) ⊎ ((e ≡ Precondition) ⊎ ((e ≡ Full) ⊎ (e ≡ NoMemory)))) → (ran : Moment) → HasItsCause shards (shard s) now ran r e
      cause (inl is) ran = subst (HasItsCause shards (shard s) now ran r) (sym is) (inl (collected (subst (λ (p : Entry). AskBelow (memory x).horizon p.conditions) own_here (given_up.collected is))))
      cause (inr (inl is)) ran = subst (HasItsCause shards (shard s) now ran r) (sym is)
          (inl (busy_shards_have_cause store shards before now ran r w s asks (subst (IsBusy (memory x)) own_here (given_up.busy is))))
      cause (inr (inr (inl is))) ran = subst (HasItsCause shards (shard s) now ran r) (sym is)
          (inl (broken_shards_have_cause store shards before now ran r w s asks (subst (IsBroken (memory x)) own_here (given_up.broken is))))
      cause (inr (inr (inr (inl is)))) ran = subst (HasItsCause shards (shard s) now ran r) (sym is)
          (inl (full_shards_have_cause store shards before now ran r w s asks (part_prepared shards s w whole takes)
          (subst (λ (p : Entry). HasNoRoom x.staged (Prepare p)) own_here (given_up.full is).1)))
      cause (inr (inr (inr (inr is)))) ran = subst (HasItsCause shards (shard s) now ran r) (sym is) (inl (subst TakesMemory (sym holder.flow.asked) tt))

      refused_up : (e ≡ Collected) ⊎ ((e ≡ Busy) ⊎ ((e ≡ Precondition) ⊎ ((e ≡ Full) ⊎ (e ≡ NoMemory)))) → (back : IntentValue) → back ≡ intent
          → PrepareGives mid s again back (Err e) later → Goal later
      refused_up of back same_back gives = refused_with back same_back e now.nodes quiet (λ ran is. cause of ran) gives

  prepare_by : (was is : NodeView D) (back : IntentValue) (reply : Result TicketValue Refusal) → IsCalled state honest moment left_since store shards (shard s) was is old new
      → Answered state honest moment left_since was (of_shard s (shard_calls.StagePrepare intent)) (from_shard (told_by.StagePrepare back reply)) is
      → PrepareGives mid s again back reply later → Goal later
  prepare_by (views.shard x) (views.shard y) back (Ok t) called so gives = ⊎_elim
      (λ gone. let bad : Ok t ≡ Err Down = so.1.down.1 gone in absurd cc)
      (λ is_up. prepared x y called is_up so.1.stays t (so.1.ok (shard_is_up state honest store shards old now standing s x called.before is_up)) back so.0 gives)
      (cases_Bool x.is_down)
  prepare_by (views.shard x) (views.shard y) back (Err e) called so gives = ⊎_elim
      (λ gone. failed back so.0 e
      (down_shard_fails state honest moment left_since counts_now only_now store shards old new now standing s x y e called so.1.err.0 gone (let both : Err e ≡ Err Down = so.1.down.1 gone in cc)) gives)
      (λ is_up. by_cause is_up so.1.err.1)
      (cases_Bool x.is_down)
    where
      by_cause : x.is_down ≡ false → (e ≡ Down) ⊎ ((e ≡ Collected) ⊎ ((e ≡ Busy) ⊎ ((e ≡ Precondition) ⊎ ((e ≡ Full) ⊎ (e ≡ NoMemory))))) → Goal later
      by_cause is_up (inl gone) = let both : true ≡ false = sym (so.1.down.0 (ap Err gone)) ∙ is_up in absurd cc
      by_cause is_up (inr of) = refused_up x y called is_up so.1.err.0 e (so.1.refused (shard_is_up state honest store shards old now standing s x called.before is_up)) of back so.0 gives
  prepare_by (views.shard x) (views.coordinator y) back reply called so gives = absurd so
  prepare_by (views.shard x) (views.refused e a b) back reply called so gives = absurd so
  prepare_by (views.coordinator x) is back reply called so gives = absurd called.before.named
  prepare_by (views.refused e a b) is back reply called so gives = failed back so.1.0 e
      (refused_fails state honest moment left_since counts_now only_now store shards old new now standing (shard s) e e a b is called so.0 refl)
      (subst (λ (z : Result TicketValue Refusal). PrepareGives mid s again back z later) so.1.1 gives)

  prepare_reply : (was is : NodeView D) (reply : Reply) → IsCalled state honest moment left_since store shards (shard s) was is old new
      → Answered state honest moment left_since was (of_shard s (shard_calls.StagePrepare intent)) reply is → IsReplyTo (of_shard s (shard_calls.StagePrepare intent)) reply
      → GivesTo mid (waits.prepare s again bits) reply later → Goal later
  prepare_reply was is (from_shard (told_by.StagePrepare back reply)) called so fits gives = prepare_by was is back reply called so gives
  prepare_reply was is reply called so fits gives = absurd fits

module _ {D : Type 0} (state : D → State) (honest : D → Type 0) (moment : D → ℕ) (left_since : D → ℕ → List ℕ → Type 0)
    (counts_now : (d : D) (t : ℕ) (c : List ℕ) → honest d → t ≤ moment d → left (state d) c → left_since d t c) (only_now : (d : D) (c : List ℕ) → honest d → left_since d (moment d) c → left (state d) c)
    (store shards : ℕ) where
  pub prepares_turn : (s : ℕ) (intent : IntentValue) → TurnsBy state honest moment left_since store shards (of_shard s (shard_calls.StagePrepare intent))
  prepares_turn s intent old new slot is_cancelled v later c number now standing =
      let flow = flow_there state honest moment left_since store shards old new now standing number slot is_cancelled v _ c.slots in
      let gives = subst (λ (x : WriteView). MatchOption x.awaited ⊥ (λ awaited. GivesTo x awaited c.reply later)) c.asks.1.6.2 c.gives in
      let fits = answered_belongs state honest moment left_since c.was (of_shard s (shard_calls.StagePrepare intent)) c.reply c.is
      (may_ask_shard store shards s c.was (shard_calls.StagePrepare intent) c.node.before.named c.asks.0) c.answered in
      prepare_reply state honest moment left_since counts_now only_now store shards old new slot is_cancelled v later number now standing flow.0 flow.1 c.asks.1.0 s intent c.asks.1.2 c.asks.1.3 c.asks.1.4
      c.asks.0 c.whole c.asks.1.5 v.flushed c.asks.1.6.0 c.was c.is c.reply c.node c.answered fits gives c.slots
