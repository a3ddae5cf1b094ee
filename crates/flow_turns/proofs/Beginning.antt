-- The begin of a write is a turn.
use Rattle.std.proofs.Common.{◌≡◌, ◌≢◌, ◌⊎◌, inl, inr, ⊎_elim, ◌≤◌, ◌+◌, ℕ, Bool, true, false, List, [], ◌∷◌, Result, Ok, Err, Some, None, refl, sym, ◌∙◌, ap, subst}
use Rattle.std.specs.Prelude.{MatchOption}
use Rattle.std.proofs.lemmas.Bool.{cases_Bool}
use Rattle.flow_turns.proofs.WriteWords.{Answered, Collected, CoordinatorView, Down, FailsQuietly, Full, Future, GivesTo, IntentValue, IsCalled, IsMade, IsReplyTo, IsSeen, Moment, NamesHorizon, NoMemory, NodeName, NodeView, Nodes, Record, Refusal, Refused, Reply, Running, Stands, StandsOver, State, Store, Turns, TurnsBy, Unsure, WriteHolds, WriteValue, WriteView, answered_belongs, asked_of, coordinator, down_coordinator_fails, from_coordinator, goes_on, going_on, is_seen, left, of_coordinator, onward, outward, refused_fails, runs_now, still_made, still_of, stops, to_write, told_unless, view_ended, writing}
use Rattle.decisions.specs.Coordinators.{BeginsAt, BeginsRefused, next_id}
use Rattle.calls.specs.Views as views
use Rattle.calls.specs.declared.call.CoordinatorCall.TheVariants as coordinator_calls
use Rattle.calls.specs.declared.reply.CoordinatorReply.TheVariants as told
use Rattle.commit_flow.specs.Answering.{BeginGives}
use Rattle.commit_flow.specs.WriteHolds as waits
use Rattle.stores.specs.FlowLaws.{with_intent, with_open}
use Rattle.stores.specs.Flows.{nothing_begun}
use Rattle.turns.specs.SeamLaws.{IsBeginner}
use Rattle.turns.proofs.BeginSeam.{begin_has_cause, begin_turns}
use Rattle.flow_turns.proofs.Catching.{may_ask_coordinator}
use Rattle.flow_turns.proofs.Going.{IsFlow, Promises, calls_coordinator, flow_there, going, holds_is, moved, none_decided, refused, right}
use Rattle.flow_turns.proofs.Memory.{devices, still_made_of}

module _ {D : Type 0} (state : D → State) (honest : D → Type 0) (moment : D → ℕ) (left_since : D → ℕ → List ℕ → Type 0)
    (counts_now : (d : D) (t : ℕ) (c : List ℕ) → honest d → t ≤ moment d → left (state d) c → left_since d t c) (only_now : (d : D) (c : List ℕ) → honest d → left_since d (moment d) c → left (state d) c)
    (store shards : ℕ) (old new : Store D) (slot : ℕ) (is_cancelled : Bool) (v later : WriteView) (number : ℕ) (now : Moment) (standing : StandsOver state honest store shards old now)
    (r : Running) (flow : IsFlow state honest moment left_since store shards old new now standing number slot is_cancelled v r)
    (write : WriteValue) (has : v.write ≡ Some write) (nothing : v.holds ≡ nothing_begun) where
  abbrev Goal : WriteView → Type 0
  Goal = Promises state honest moment left_since store shards old new now standing number slot is_cancelled v

  abbrev before : NodeName → List Record → Type 0
  before = stops state honest store shards old.devices

  abbrev mid : WriteView
  mid = record v { write = None; awaited = Some waits.begin }

  asked : r.asked ≡ to_write write.changes write.conditions
  asked = sym (flow.shows.asked (to_write write.changes write.conditions) (ap asked_of has))

  undecided : v.holds.decided ≡ None
  undecided = ap (λ (h : WriteHolds). h.decided) nothing

  -- a write that is not begun is not cancelled: it would have ended
  alive : r.is_cancelled ≡ false
  alive = by_bool r.is_cancelled refl
    where
      by_bool : (b : Bool) → r.is_cancelled ≡ b → r.is_cancelled ≡ false
      by_bool false is = is
      by_bool true is =
          let gone = (right state honest moment left_since store shards old new now standing number slot is_cancelled v r flow).cancelled is
          (none_decided state honest moment left_since store shards old new now standing number slot is_cancelled v r flow undecided) in
          let both : onward ≡ outward gone.0 = sym (ap (λ (h : WriteHolds). h.way) nothing) ∙ gone.1 in
          absurd cc

  beginner : IsBeginner now r v.holds write.changes write.conditions
  beginner = record {
    running = flow.running;
    asked = asked;
    holds = holds_is state honest moment left_since store shards old new now standing number slot is_cancelled v r flow;
    unbegun = ap (λ (h : WriteHolds). h.id) nothing;
    undecided = none_decided state honest moment left_since store shards old new now standing number slot is_cancelled v r flow undecided;
    goes_on = alive;
  }

  module _ (x y : CoordinatorView D) (called : IsCalled state honest moment left_since store shards coordinator (views.coordinator x) (views.coordinator y) old new) (is_up : x.is_down ≡ false)
      (i : IntentValue) (begins : BeginsAt x write.changes write.conditions i y) where
    abbrev next : Nodes
    next = with_open store shards before now.nodes i.write

    abbrev begun : Running
    begun = with_intent store shards before now r v.holds i.write

    law : IsSeen next y × (begun.holds ≡ writing (record v.holds { id = Some i.write.id; intent = Some i })) × Stands store shards before (going_on now next now.machine begun)
        × Turns shards (NamesHorizon state honest store shards old now) now r (goes_on ∷ []) (going_on now next now.machine begun)
    law = begin_turns store shards before D now x y write.changes write.conditions i r v.holds standing.stands (is_seen state honest store shards old now standing x called.before is_up) begins beginner

    made : IsMade state honest moment left_since store shards old new now next now.machine
    made = still_made_of state honest moment left_since only_now store shards old new now standing x y called is_up x.staged (next_id x ∷ x.open_ids) (x.given + 1) begins.new_is next law.0 (λ t. refl) refl

    same_devices_then : new.devices ≡ old.devices
    same_devices_then = devices state honest moment left_since only_now store shards old new now standing x y called is_up x.staged (next_id x ∷ x.open_ids) (x.given + 1) begins.new_is

    begun_up : BeginGives mid (Ok i) later → Goal later
    begun_up is = subst Goal (sym is)
        (going state honest moment left_since store shards old new now standing number slot is_cancelled v r flow next now.machine (record v.holds { id = Some i.write.id; intent = Some i }) None false i.write.id
        begun made refl refl law.1 refl (
          moved state honest moment left_since store shards old new now standing number slot is_cancelled v same_devices_then _ law.2,
          subst (λ t. Turns shards (NamesHorizon state honest store shards old now) now r t (going_on now next now.machine begun)) (ap told_unless (sym alive)) law.3,
        ))

  -- its node is away
  failed : (e : Refusal) → FailsQuietly state honest moment left_since store shards old new now standing coordinator e → later ≡ view_ended (Refused e) → Goal later
  failed e fails is = subst Goal (sym is) (refused state honest moment left_since store shards old new now standing number slot is_cancelled v r flow fails.0 now.machine fails.1 e alive undecided
      (λ ran same. fails.2 r ran same (calls_coordinator shards r write.changes write.conditions asked)))

  module _ (x y : CoordinatorView D) (called : IsCalled state honest moment left_since store shards coordinator (views.coordinator x) (views.coordinator y) old new) (is_up : x.is_down ≡ false) where
    refused_up : (e : Refusal) → y ≡ x → BeginsRefused x write.conditions e → later ≡ view_ended (Refused e) → Goal later
    refused_up e same begins is = subst Goal (sym is) (refused state honest moment left_since store shards old new now standing number slot is_cancelled v r flow now.nodes now.machine
        (still_of state honest moment left_since store shards old new now standing coordinator
        (still_made state honest moment left_since store shards old new now standing coordinator (views.coordinator x) (views.coordinator y) called only_now (ap views.coordinator same))) e alive undecided
        (λ ran here. (
          inl (begin_has_cause store shards before D now ran x write.changes write.conditions e r standing.stands (is_seen state honest store shards old now standing x called.before is_up) asked begins),
          sure begins.others,
        )))
      where
        sure : (e ≡ Future) ⊎ ((e ≡ Collected) ⊎ ((e ≡ Full) ⊎ (e ≡ NoMemory))) → e ≢ Unsure
        sure (inl of) bad = let both : Future ≡ Unsure = sym of ∙ bad in cc
        sure (inr (inl of)) bad = let both : Collected ≡ Unsure = sym of ∙ bad in cc
        sure (inr (inr (inl of))) bad = let both : Full ≡ Unsure = sym of ∙ bad in cc
        sure (inr (inr (inr of))) bad = let both : NoMemory ≡ Unsure = sym of ∙ bad in cc

  begin_by : (was is : NodeView D) (reply : Result IntentValue Refusal) → IsCalled state honest moment left_since store shards coordinator was is old new
      → Answered state honest moment left_since was (of_coordinator (coordinator_calls.Begin write)) (from_coordinator (told.Begin reply)) is → BeginGives mid reply later → Goal later
  begin_by (views.coordinator x) (views.coordinator y) (Ok i) called so gives = ⊎_elim
      (λ gone. let bad : Ok i ≡ Err Down = so.down.1 gone in absurd cc)
      (λ is_up. begun_up x y called is_up i (so.ok (runs_now state honest store shards old now standing x called.before is_up)).0 gives)
      (cases_Bool x.is_down)
  begin_by (views.coordinator x) (views.coordinator y) (Err e) called so gives = ⊎_elim
      (λ gone. failed e (down_coordinator_fails state honest moment left_since counts_now only_now store shards old new now standing x y e called so.err.0 gone (let both : Err e ≡ Err Down = so.down.1 gone in cc)) gives)
      (λ is_up. by_cause is_up so.err.1)
      (cases_Bool x.is_down)
    where
      up_then : x.is_down ≡ false → (e ≡ Future) ⊎ ((e ≡ Collected) ⊎ ((e ≡ Full) ⊎ (e ≡ NoMemory))) → Goal later
      up_then is_up of =
          let runs = runs_now state honest store shards old now standing x called.before is_up in
          refused_up x y called is_up e so.err.0
          (record { future = λ is. so.future runs (ap Err is); collected = λ is. so.collected runs (ap Err is); full = λ is. (so.full runs (ap Err is)).1; others = of }) gives

      by_cause : x.is_down ≡ false → (e ≡ Down) ⊎ ((e ≡ Future) ⊎ ((e ≡ Collected) ⊎ ((e ≡ Full) ⊎ (e ≡ NoMemory)))) → Goal later
      by_cause is_up (inl down) = let both : true ≡ false = sym (so.down.0 (ap Err down)) ∙ is_up in absurd cc
      by_cause is_up (inr of) = up_then is_up of
  begin_by (views.coordinator x) (views.shard y) reply called so gives = absurd so
  begin_by (views.coordinator x) (views.refused e a b) reply called so gives = absurd so
  begin_by (views.shard x) is reply called so gives = absurd called.before.named
  begin_by (views.refused e a b) is reply called so gives = failed e (refused_fails state honest moment left_since counts_now only_now store shards old new now standing coordinator e e a b is called so.0 refl)
      (subst (λ (z : Result IntentValue Refusal). BeginGives mid z later) so.1 gives)

  begin_reply : (was is : NodeView D) (reply : Reply) → IsCalled state honest moment left_since store shards coordinator was is old new
      → Answered state honest moment left_since was (of_coordinator (coordinator_calls.Begin write)) reply is → IsReplyTo (of_coordinator (coordinator_calls.Begin write)) reply → GivesTo mid waits.begin reply later → Goal later
  begin_reply was is (from_coordinator (told.Begin reply)) called so fits gives = begin_by was is reply called so gives
  begin_reply was is reply called so fits gives = absurd fits

module _ {D : Type 0} (state : D → State) (honest : D → Type 0) (moment : D → ℕ) (left_since : D → ℕ → List ℕ → Type 0)
    (counts_now : (d : D) (t : ℕ) (c : List ℕ) → honest d → t ≤ moment d → left (state d) c → left_since d t c) (only_now : (d : D) (c : List ℕ) → honest d → left_since d (moment d) c → left (state d) c)
    (store shards : ℕ) where
  pub begins_turn : (write : WriteValue) → TurnsBy state honest moment left_since store shards (of_coordinator (coordinator_calls.Begin write))
  begins_turn write old new slot is_cancelled v later c number now standing =
      let flow = flow_there state honest moment left_since store shards old new now standing number slot is_cancelled v _ c.slots in
      let gives = subst (λ (x : WriteView). MatchOption x.awaited ⊥ (λ awaited. GivesTo x awaited c.reply later)) c.asks.1.1 c.gives in
      let fits = answered_belongs state honest moment left_since c.was (of_coordinator (coordinator_calls.Begin write)) c.reply c.is
      (may_ask_coordinator store shards c.was (coordinator_calls.Begin write) c.node.before.named c.asks.0) c.answered in
      begin_reply state honest moment left_since counts_now only_now store shards old new slot is_cancelled v later number now standing flow.0 flow.1 write c.asks.1.0.0 c.asks.1.0.1
      c.was c.is c.reply c.node c.answered fits gives c.slots
