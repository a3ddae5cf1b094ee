-- A write flow after its call: it goes on, goes out or ends, and keeps the promise of a step.
use Rattle.std.proofs.Common.{◌≡◌, ◌≢◌, inr, ◌<◌, ℕ, Bool, true, false, true≢false, List, [], ◌∷◌, Option, Some, None, Contains, refl, sym, ◌∙◌, ap, subst}
use Rattle.flow_turns.proofs.WriteWords.{Asked, BatchValue, Calls, Change, Condition, Entry, FailsQuietly, FlowView, HasItsCause, HoldsLess, IfHeld, IntentValue, IsMade, IsQuietlyMade, IsRight, IsRightBatch, IsRightWrite, Machine, Moment, NamesHorizon, NodeName, Nodes, Ran, Record, Refusal, Refused, Running, ShowsFlow, SlotTurns, Stands, StandsOver, State, Store, Told, Turns, Unsure, WriteHolds, WriteId, WriteView, at_rest, coordinator, ending, flow_at, going_on, id_of, outward, own_write, refuses, shard, shown, shown_until, stops, takes_part, to_write, told_end, told_of, told_unless, view_ended, with_call, writing}
use Rattle.commit_flow.specs.Answering.{end_of}
use Rattle.commit_flow.specs.declared.end.WriteEnd.{WriteEnd}
use Rattle.stores.specs.Causes.{CallsShard}
use Rattle.stores.specs.Flows.{Holds, to_check, to_collect, to_flush, to_learn, to_raise, to_read, to_resolve, to_watch}
use Rattle.stores.specs.StagingLaws.{IsFlowOf}
use Rattle.stores.proofs.PrepareTurn.{part_has, part_named}
use Rattle.turns.specs.Promises.{events_of}
use Rattle.turns.specs.QuietTurns.{behind_call, with_batch}
use Rattle.turns.specs.Runs.{turn}
use Rattle.turns.proofs.AnswerTurns.{refused_writes_end}
use Rattle.turns.proofs.QuietTurns.{quiet_calls_end, quiet_calls_keep, quiet_calls_refuse, refused_writes_go_out, writes_spend}
use Rattle.flow_turns.proofs.Turned.{ran_ending, ran_going, runs, the_flow}

-- a flow that holds what a write holds was asked to write
of_write : (shards : ℕ) (left : NodeName → List Record → Type 0) (now : Moment) (r : Running) (asked : Asked) (h : WriteHolds) → IsRight shards left now r asked (writing h)
    → (changes : List Change) × (conditions : List Condition) × (asked ≡ to_write changes conditions) × IsRightWrite shards left now r changes conditions h
of_write shards left now r (to_write changes conditions) h k = (changes, conditions, refl, k)
of_write shards left now r (to_read fresh sets) h k = absurd k
of_write shards left now r (to_check fresh x u) h k = absurd k
of_write shards left now r (to_watch c limit names) h k = absurd k
of_write shards left now r (to_flush n) h k = absurd k
of_write shards left now r (to_learn s) h k = absurd k
of_write shards left now r (to_resolve s) h k = absurd k
of_write shards left now r (to_raise x) h k = absurd k
of_write shards left now r (to_collect s) h k = absurd k

-- a write calls the coordinator, and each shard that takes part in it
pub calls_coordinator : (shards : ℕ) (r : Running) (changes : List Change) (conditions : List Condition) → r.asked ≡ to_write changes conditions → Calls shards r.asked r.holds coordinator
calls_coordinator shards r changes conditions is s flushes = let both : to_write changes conditions ≡ to_flush (shard s) = sym is ∙ flushes in cc

pub calls_shard : (shards s : ℕ) (r : Running) (h : WriteHolds) (w : Entry) → r.asked ≡ to_write w.changes w.conditions → r.holds ≡ writing h → h.id ≡ Some w.id → s < shards → takes_part shards s w ≡ true
    → Calls shards r.asked r.holds (shard s)
calls_shard shards s r h w is holds has_id there takes =
    let t = part_has shards s w takes in
    let named = part_named shards s w t.0 t.1 in (
      there,
      subst (λ (a : Asked). CallsShard shards a r.holds s) (sym is) (
        λ none. let both : Some w.id ≡ None = sym has_id ∙ ap id_of (sym holds) ∙ none in cc,
        (t.0, named.0, sym named.1),
      ),
    )

module _ {D : Type 0} (state : D → State) (honest : D → Type 0) (moment : D → ℕ) (left_since : D → ℕ → List ℕ → Type 0) (store shards : ℕ) (old new : Store D) (now : Moment)
    (standing : StandsOver state honest store shards old now) (number slot : ℕ) (is_cancelled : Bool) (v : WriteView) where
  abbrev left_before : NodeName → List Record → Type 0
  left_before = stops state honest store shards old.devices

  abbrev left_after : NodeName → List Record → Type 0
  left_after = stops state honest store shards new.devices

  -- the promise of the turn after which the flow is seen so
  abbrev pub Promises : WriteView → Type 0
  Promises later = SlotTurns slot (shown v is_cancelled) (shown_until later.ended later is_cancelled) old new
      → Ran state honest moment left_since store shards old now number (turn slot) (events_of number (told_of is_cancelled later.ended)) new

  -- if no device has changed, a stop leaves what it left before
  pub moved : new.devices ≡ old.devices → (at : Moment) → Stands store shards left_before at → Stands store shards left_after at
  moved same at stands = subst (λ (f : NodeName → D × D). Stands store shards (stops state honest store shards f) at) (sym same) stands

  -- a running flow that is shown so
  pub record IsFlow (r : Running) : Type 0 where
    pub there : flow_at slot now.running ≡ Some r
    pub running : Contains now.running r
    pub shows : ShowsFlow r (shown v is_cancelled)

  pub flow_there : (g : Option FlowView) → SlotTurns slot (shown v is_cancelled) g old new → (r : Running) × IsFlow r
  flow_there g slots =
      let flow = the_flow state honest moment left_since store shards old new now standing number slot (shown v is_cancelled) g slots in
      (flow.0, record { there = flow.1; running = runs state honest moment left_since store shards old new now standing number slot (shown v is_cancelled) g slots flow.0 flow.1; shows = flow.2 })

  module _ (r : Running) (is_flow : IsFlow r) where
    pub holds_is : r.holds ≡ writing v.holds
    holds_is = sym is_flow.shows.holds

    pub cancelled_is : r.is_cancelled ≡ is_cancelled
    cancelled_is = sym is_flow.shows.cancelled

    -- what it holds is right, of what it is asked
    pub is_right : (changes : List Change) × (conditions : List Condition) × (r.asked ≡ to_write changes conditions) × IsRightWrite shards left_before now r changes conditions v.holds
    is_right = of_write shards left_before now r r.asked v.holds (subst (λ (x : Holds). IsRight shards left_before now r r.asked x) holds_is (standing.stands.flows.held r is_flow.running))

    abbrev pub changes : List Change
    changes = is_right.0

    abbrev pub conditions : List Condition
    conditions = is_right.1

    pub asked_is : r.asked ≡ to_write changes conditions
    asked_is = is_right.2

    abbrev pub right : IsRightWrite shards left_before now r changes conditions v.holds
    right = is_right.3

    pub none_decided : v.holds.decided ≡ None → r.decided ≡ None
    none_decided none = sym right.same_decision ∙ none

    -- the intent that it holds is of what it is asked
    pub intent_own : (i : IntentValue) → v.holds.intent ≡ Some i → v.holds.id ≡ Some i.write.id → i.write ≡ own_write i.write.id changes conditions
    intent_own i has id = ((right.own i.write.id id).intent i has).1.own

    pub asks_own : (i : IntentValue) → v.holds.intent ≡ Some i → v.holds.id ≡ Some i.write.id → r.asked ≡ to_write i.write.changes i.write.conditions
    asks_own i has id = asked_is ∙ ap (λ (w : Entry). to_write w.changes w.conditions) (sym (intent_own i has id))

    pub flow_of : (i : IntentValue) → v.holds.intent ≡ Some i → v.holds.id ≡ Some i.write.id → v.holds.decided ≡ None → IsFlowOf now r i.write
    flow_of i has id none = record { there = is_flow.running; asked = asks_own i has id; id = ap (λ (x : Holds). turns_id x) holds_is ∙ id; undecided = none_decided none }
      where
        turns_id : Holds → Option WriteId
        turns_id = Rattle.stores.specs.Flows.id_of

    -- it goes on in its slot, and holds this
    pub going : (next : Nodes) (m : Machine) (k : WriteHolds) (caught : Option ℕ) (flushed : Bool) (id : WriteId) (q : Running) → IsMade state honest moment left_since store shards old new now next m → k.id ≡ Some id
        → q.slot ≡ r.slot → q.holds ≡ writing k → q.is_cancelled ≡ r.is_cancelled
        → Stands store shards left_after (going_on now next m q) × Turns shards (NamesHorizon state honest store shards old now) now r (told_unless r.is_cancelled) (going_on now next m q)
        → Promises (record (at_rest k) { caught = caught; flushed = flushed })
    going next m k caught flushed id q made has_id same_slot holds same_cancelled law slots = subst
        (λ (told : List Told). Ran state honest moment left_since store shards old now number (turn slot) (events_of number told) new) (ap told_unless cancelled_is)
        (ran_going state honest moment left_since store shards old new now standing number slot (shown v is_cancelled) (Some (shown (record (at_rest k) { caught = caught; flushed = flushed }) is_cancelled)) slots r is_flow.there
        next m q (shown (record (at_rest k) { caught = caught; flushed = flushed }) is_cancelled) (told_unless r.is_cancelled) made same_slot refl shows law.0 law.1)
      where
        shows : ShowsFlow q (shown (record (at_rest k) { caught = caught; flushed = flushed }) is_cancelled)
        shows = record {
          asked = λ a is. absurd cc;
          still_asked = λ none. let both : Some id ≡ None = sym has_id ∙ ap Rattle.stores.specs.Flows.id_of (sym holds) ∙ none in absurd cc;
          holds = sym holds;
          cancelled = sym cancelled_is ∙ sym same_cancelled;
        }

    -- or it ends
    pub ends : (next : Nodes) (m : Machine) (end : WriteEnd) (told : List Told) → IsMade state honest moment left_since store shards old new now next m → told ≡ told_end is_cancelled end
        → Stands store shards left_after (ending now next m r []) × Turns shards (NamesHorizon state honest store shards old now) now r told (ending now next m r [])
        → Promises (view_ended end)
    ends next m end told made is law slots = subst (λ (t : List Told). Ran state honest moment left_since store shards old now number (turn slot) (events_of number t) new) is
        (ran_ending state honest moment left_since store shards old new now standing number slot (shown v is_cancelled) None slots r is_flow.there next m [] told made refl law.0 law.1)

    -- after a quiet call
    module _ (next : Nodes) (m : Machine) (quiet : IsQuietlyMade state honest moment left_since store shards old new now standing next m) where
      -- the decisions that it held on their way are still right
      pub batch_stays : IfHeld v.holds.batch (IsRightBatch m)
      batch_stays = (of_write shards left_after (behind_call now next m) r r.asked v.holds
          (subst (λ (x : Holds). IsRight shards left_after (behind_call now next m) r r.asked x) holds_is (quiet.0.stands.flows.held r is_flow.running))).3.batch

      -- it goes on with other decisions on their way, or none
      pub keeps : (b : Option BatchValue) (caught : Option ℕ) (flushed : Bool) (id : WriteId) → v.holds.id ≡ Some id → IfHeld b (IsRightBatch m) → Promises (record (at_rest (record v.holds { batch = b })) { caught = caught; flushed = flushed })
      keeps b caught flushed id has_id right_batch = going next m (record v.holds { batch = b }) caught flushed id (with_call r (with_batch b r.holds) r.met m) quiet.1 has_id refl (ap (with_batch b) holds_is) refl
          (quiet_calls_keep store shards left_before left_after now next m r b quiet.0 is_flow.running right_batch)

      -- it goes on with what it held
      pub stays_so : (later : WriteView) (caught : Option ℕ) (flushed : Bool) (id : WriteId) → v.holds.id ≡ Some id → later ≡ record (at_rest v.holds) { caught = caught; flushed = flushed } → Promises later
      stays_so later caught flushed id has_id is = subst Promises (sym is) (keeps v.holds.batch caught flushed id has_id batch_stays)

      -- it goes on, and has spent some of what it held
      pub spends : (k : WriteHolds) (id : WriteId) → v.holds.id ≡ Some id → HoldsLess v.holds k → k.way ≡ v.holds.way → Promises (at_rest k)
      spends k id has_id less same_way = going next m k None false id (with_call r (writing k) r.met m) quiet.1 (less.id ∙ has_id) refl refl refl
          (writes_spend store shards left_before left_after now next m r v.holds k changes conditions quiet.0 is_flow.running asked_is holds_is less same_way)

      -- it goes out with a refusal that has its cause
      pub goes_out : (k : WriteHolds) (id : WriteId) (e : Refusal) → v.holds.id ≡ Some id → v.holds.decided ≡ None → HoldsLess v.holds k → k.way ≡ outward (Some e)
          → ((ran : Moment) → ran.nodes ≡ next → HasItsCause shards quiet.0.node now ran r e) → Promises (at_rest k)
      goes_out k id e has_id none less way cause = going next m k None false id (with_call r (writing k) (Some e) m) quiet.1 (less.id ∙ has_id) refl refl refl
          (refused_writes_go_out store shards left_before left_after now next m r v.holds k changes conditions e quiet.0 is_flow.running asked_is holds_is less way (none_decided none)
          (cause (going_on now next m (with_call r (writing k) (Some e) m)) refl))

      -- before anything was begun it ends with one
      pub refused : (e : Refusal) → r.is_cancelled ≡ false → v.holds.decided ≡ None → ((ran : Moment) → ran.nodes ≡ next → HasItsCause shards quiet.0.node now ran r e × (e ≢ Unsure)) → Promises (view_ended (Refused e))
      refused e alive none cause = ends next m (Refused e) (refuses e ∷ []) quiet.1 (ap (λ (b : Bool). told_end b (Refused e)) (sym alive ∙ cancelled_is))
          (quiet_calls_refuse store shards left_before left_after now next m r e quiet.0 is_flow.running alive (λ is. (cause (ending now next m r []) refl).1) (λ is. none_decided none)
          (inr (e, refl, (cause (ending now next m r []) refl).0)))

      -- on its way out it ends, with what it met or, cancelled, with nothing
      ends_alive : (met : Option Refusal) → v.holds.way ≡ outward met → r.is_cancelled ≡ false → Promises (view_ended (end_of (outward met)))
      ends_alive None way alive = absurd (true≢false (sym (right.refused_or_cancelled way) ∙ alive))
      ends_alive (Some e) way alive =
          let here : IsRightWrite shards left_before now r changes conditions v.holds = right in
          ends next m (Refused e) (refuses e ∷ []) quiet.1 (ap (λ (b : Bool). told_end b (Refused e)) (sym alive ∙ cancelled_is))
          (refused_writes_end store shards left_before left_after now next m r changes conditions v.holds e quiet.0 is_flow.running asked_is holds_is way ((right.out (Some e) way).1 e refl).1 alive)

      ends_quietly : (end : WriteEnd) → r.is_cancelled ≡ true → Promises (view_ended end)
      ends_quietly end gone = ends next m end [] quiet.1 (ap (λ (b : Bool). told_end b end) (sym gone ∙ cancelled_is))
          (quiet_calls_end store shards left_before left_after now next m r quiet.0 is_flow.running gone)

      -- it ends as a law says, or with nothing if it was cancelled
      pub ends_as : (end : WriteEnd) → (r.is_cancelled ≡ false
          → Stands store shards left_after (ending now next m r []) × Turns shards (NamesHorizon state honest store shards old now) now r (told_end false end) (ending now next m r []))
          → Promises (view_ended end)
      ends_as end law = by_bool r.is_cancelled refl
        where
          by_bool : (b : Bool) → r.is_cancelled ≡ b → Promises (view_ended end)
          by_bool true is = ends_quietly end is
          by_bool false is = ends next m end (told_end false end) quiet.1 (ap (λ (b : Bool). told_end b end) (sym is ∙ cancelled_is)) (law is)

      by_cancel : (b : Bool) → r.is_cancelled ≡ b → (met : Option Refusal) → v.holds.way ≡ outward met → Promises (view_ended (end_of (outward met)))
      by_cancel true is met way = ends_quietly (end_of (outward met)) is
      by_cancel false is met way = ends_alive met way is

      pub ends_out : (met : Option Refusal) → v.holds.way ≡ outward met → Promises (view_ended (end_of v.holds.way))
      ends_out met way = subst (λ w. Promises (view_ended (end_of w))) (sym way) (by_cancel r.is_cancelled refl met way)

    -- a call that failed, or found its node away, takes out a write that is not decided
    pub fails_out : (n : NodeName) (e : Refusal) (k : WriteHolds) (id : WriteId) → FailsQuietly state honest moment left_since store shards old new now standing n e → Calls shards r.asked r.holds n
        → v.holds.id ≡ Some id → v.holds.decided ≡ None → HoldsLess v.holds k → k.way ≡ outward (Some e) → Promises (at_rest k)
    fails_out n e k id failed calls has_id none less way =
        goes_out failed.0 now.machine failed.1 k id e has_id none less way (λ ran is. (failed.2 r ran is calls).0)
