-- The outcome of a decision that a write flow asks for is a turn.
use Rattle.std.proofs.Common.{◌≡◌, inr, ⊎_elim, ◌≤◌, ℕ, Bool, false, List, [], ◌∷◌, Option, Some, None, refl, sym, ◌∙◌, ap, subst}
use Rattle.std.specs.Prelude.{MatchOption}
use Rattle.std.proofs.lemmas.Bool.{cases_Bool}
use Rattle.flow_turns.proofs.WriteWords.{Answered, CoordinatorView, DecidedValue, Down, GivesTo, IsCalled, IsQuietlyMade, IsReplyTo, Moment, NamesHorizon, NodeName, NodeView, Record, Refused, Reply, Running, StandsOver, State, Store, Turns, TurnsBy, Unsure, WriteHolds, WriteId, WriteView, answered_belongs, at_rest, coordinator, devices_of, ending, from_coordinator, is_seen, left, of_coordinator, runs_now, same_devices, still_made, stops, view_ended}
use Rattle.coordinator.specs.declared.telling.Outcome as outcomes
use Rattle.coordinator.specs.declared.telling.Outcome.TheVariants.{Kept, Later, Unsure as is_unsure}
use Rattle.calls.specs.Views as views
use Rattle.calls.specs.declared.call.CoordinatorCall.TheVariants as coordinator_calls
use Rattle.calls.specs.declared.reply.CoordinatorReply.TheVariants as told
use Rattle.commit_flow.specs.Answering.{OutcomeGives}
use Rattle.commit_flow.specs.WriteHolds as waits
use Rattle.commit_flow.specs.declared.end.WriteEnd.TheVariants.{Wrote}
use Rattle.stores.specs.Replies.{wrote}
use Rattle.turns.specs.CoordinatorSeamLaws.{HasDecided, IsForgotten}
use Rattle.turns.specs.Runs.{answered}
use Rattle.turns.proofs.CoordinatorCalls.{decisions_are_forgotten}
use Rattle.turns.proofs.CoordinatorTurns.{away_is_forgotten, kept_answers, unsure_answers}
use Rattle.flow_turns.proofs.Standing.{coordinator_is_away}
use Rattle.flow_turns.proofs.Catching.{may_ask_coordinator}
use Rattle.flow_turns.proofs.Going.{IsFlow, Promises, asked_is, changes, conditions, ends_as, flow_there, holds_is, moved, right, stays_so}

module _ {D : Type 0} (state : D → State) (honest : D → Type 0) (moment : D → ℕ) (left_since : D → ℕ → List ℕ → Type 0)
    (counts_now : (d : D) (t : ℕ) (c : List ℕ) → honest d → t ≤ moment d → left (state d) c → left_since d t c) (only_now : (d : D) (c : List ℕ) → honest d → left_since d (moment d) c → left (state d) c)
    (store shards : ℕ) (old new : Store D) (slot : ℕ) (is_cancelled : Bool) (v later : WriteView) (number : ℕ) (now : Moment) (standing : StandsOver state honest store shards old now)
    (r : Running) (flow : IsFlow state honest moment left_since store shards old new now standing number slot is_cancelled v r) (d : DecidedValue) (has : v.holds.decided ≡ Some d) where
  abbrev Goal : WriteView → Type 0
  Goal = Promises state honest moment left_since store shards old new now standing number slot is_cancelled v

  abbrev before : NodeName → List Record → Type 0
  before = stops state honest store shards old.devices

  abbrev mid : WriteView
  mid = record v { holds = record v.holds { decided = None }; awaited = Some waits.outcome }

  decided : HasDecided now r (changes state honest moment left_since store shards old new now standing number slot is_cancelled v r flow) (conditions state honest moment left_since store shards old new now standing number slot is_cancelled v r flow) v.holds d
  decided = record {
    running = flow.running;
    asked = asked_is state honest moment left_since store shards old new now standing number slot is_cancelled v r flow;
    holds = holds_is state honest moment left_since store shards old new now standing number slot is_cancelled v r flow;
    decided = has;
  }

  own_id : (o : Option WriteId) → v.holds.id ≡ o → (id : WriteId) × (v.holds.id ≡ Some id)
  own_id None is = let both : None ≡ Some d = sym ((right state honest moment left_since store shards old new now standing number slot is_cancelled v r flow).nothing is).decided ∙ has in absurd cc
  own_id (Some id) is = (id, is)

  module _ (was is : NodeView D) (called : IsCalled state honest moment left_since store shards coordinator was is old new) (same : is ≡ was) where
    quiet : IsQuietlyMade state honest moment left_since store shards old new now standing now.nodes now.machine
    quiet = still_made state honest moment left_since store shards old new now standing coordinator was is called only_now same

    devices : new.devices ≡ old.devices
    devices = same_devices state honest moment left_since store shards old new now standing coordinator was is called (ap devices_of same)

    unsure : IsForgotten now.nodes d → later ≡ view_ended (Refused Unsure) → Goal later
    unsure forgotten ended = subst Goal (sym ended) (ends_as state honest moment left_since store shards old new now standing number slot is_cancelled v r flow now.nodes now.machine quiet (Refused Unsure)
        (λ alive.
        let law = unsure_answers store shards before now r _ _ v.holds d standing.stands decided forgotten alive in
        (moved state honest moment left_since store shards old new now standing number slot is_cancelled v devices _ law.0, law.1)))

  module _ (x y : CoordinatorView D) (called : IsCalled state honest moment left_since store shards coordinator (views.coordinator x) (views.coordinator y) old new) (same : y ≡ x) (is_up : x.is_down ≡ false) where
    told_up : (reply : outcomes.Outcome) → Answered state honest moment left_since (views.coordinator x) (of_coordinator (coordinator_calls.Outcome d)) (from_coordinator (told.Outcome reply)) (views.coordinator y) → OutcomeGives mid reply later → Goal later
    told_up (Kept place) so ended =
        let runs = runs_now state honest store shards old now standing x called.before is_up in
        let kept = so.1.kept place runs refl in
        subst Goal (sym ended) (ends_as state honest moment left_since store shards old new now standing number slot is_cancelled v r flow now.nodes now.machine
        (quiet (views.coordinator x) (views.coordinator y) called (ap views.coordinator same)) (Wrote place)
        (λ alive.
        let law = kept_answers store shards before D now x r _ _ v.holds d r.holds standing.stands (is_seen state honest store shards old now standing x called.before is_up) decided kept.1 refl alive in (
          moved state honest moment left_since store shards old new now standing number slot is_cancelled v (devices (views.coordinator x) (views.coordinator y) called (ap views.coordinator same)) _ law.0,
          subst (λ (p : ℕ). Turns shards (NamesHorizon state honest store shards old now) now r (answered (wrote p) ∷ []) (ending now now.nodes now.machine r [])) (sym kept.0) law.1,
        )))
    told_up (Later back) so goes =
        let runs = runs_now state honest store shards old now standing x called.before is_up in
        let own = (so.1.later back runs refl).0 in
        let id = own_id v.holds.id refl in
        stays_so state honest moment left_since store shards old new now standing number slot is_cancelled v r flow now.nodes now.machine
        (quiet (views.coordinator x) (views.coordinator y) called (ap views.coordinator same)) later None false id.0 id.1
        (goes ∙ ap at_rest (ap (λ (o : Option DecidedValue). make o) (ap (λ (z : DecidedValue). Some z) own ∙ sym has)))
      where
        make : Option DecidedValue → WriteHolds
        make o = record v.holds { decided = o }
    told_up is_unsure so ended =
        let runs = runs_now state honest store shards old now standing x called.before is_up in
        unsure (views.coordinator x) (views.coordinator y) called (ap views.coordinator same)
        (decisions_are_forgotten store shards before D now.nodes x d (is_seen state honest store shards old now standing x called.before is_up) is_up (so.1.unsure runs refl)) ended

  outcome_by : (was is : NodeView D) (reply : outcomes.Outcome) → IsCalled state honest moment left_since store shards coordinator was is old new
      → Answered state honest moment left_since was (of_coordinator (coordinator_calls.Outcome d)) (from_coordinator (told.Outcome reply)) is → OutcomeGives mid reply later → Goal later
  outcome_by (views.coordinator x) (views.coordinator y) reply called so gives = ⊎_elim
      (λ gone. unsure (views.coordinator x) (views.coordinator y) called (ap views.coordinator so.0)
      (away_is_forgotten now.nodes d Down (coordinator_is_away state honest store shards old now standing x called.before gone))
      (subst (λ (z : outcomes.Outcome). OutcomeGives mid z later) (so.1.down gone) gives))
      (λ is_up. told_up x y called so.0 is_up reply so gives)
      (cases_Bool x.is_down)
  outcome_by (views.coordinator x) (views.shard y) reply called so gives = absurd so
  outcome_by (views.coordinator x) (views.refused e a b) reply called so gives = absurd so
  outcome_by (views.shard x) is reply called so gives = absurd called.before.named
  outcome_by (views.refused e a b) is reply called so gives = unsure (views.refused e a b) is called so.0
      (away_is_forgotten now.nodes d e (inr (standing.nodes.at coordinator ∙ called.before.at)))
      (subst (λ (z : outcomes.Outcome). OutcomeGives mid z later) so.1 gives)

  outcome_reply : (was is : NodeView D) (reply : Reply) → IsCalled state honest moment left_since store shards coordinator was is old new
      → Answered state honest moment left_since was (of_coordinator (coordinator_calls.Outcome d)) reply is → IsReplyTo (of_coordinator (coordinator_calls.Outcome d)) reply → GivesTo mid waits.outcome reply later → Goal later
  outcome_reply was is (from_coordinator (told.Outcome reply)) called so fits gives = outcome_by was is reply called so gives
  outcome_reply was is reply called so fits gives = absurd fits

module _ {D : Type 0} (state : D → State) (honest : D → Type 0) (moment : D → ℕ) (left_since : D → ℕ → List ℕ → Type 0)
    (counts_now : (d : D) (t : ℕ) (c : List ℕ) → honest d → t ≤ moment d → left (state d) c → left_since d t c) (only_now : (d : D) (c : List ℕ) → honest d → left_since d (moment d) c → left (state d) c)
    (store shards : ℕ) where
  pub outcome_turns : (d : DecidedValue) → TurnsBy state honest moment left_since store shards (of_coordinator (coordinator_calls.Outcome d))
  outcome_turns d old new slot is_cancelled v later c number now standing =
      let flow = flow_there state honest moment left_since store shards old new now standing number slot is_cancelled v _ c.slots in
      let gives = subst (λ (x : WriteView). MatchOption x.awaited ⊥ (λ awaited. GivesTo x awaited c.reply later)) c.asks.1.1 c.gives in
      let fits = answered_belongs state honest moment left_since c.was (of_coordinator (coordinator_calls.Outcome d)) c.reply c.is
      (may_ask_coordinator store shards c.was (coordinator_calls.Outcome d) c.node.before.named c.asks.0) c.answered in
      outcome_reply state honest moment left_since counts_now only_now store shards old new slot is_cancelled v later number now standing flow.0 flow.1 d c.asks.1.0
      c.was c.is c.reply c.node c.answered fits gives c.slots
