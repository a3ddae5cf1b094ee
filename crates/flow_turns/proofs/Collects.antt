-- A shard's collection takes its turn.
use Rattle.std.proofs.Common.{◌≡◌, ◌≢◌, ⊎_elim, inl, inr, ◌⊎◌, ◌≤◌, ℕ, Bool, true, false, List, [], ◌∷◌, Option, Some, None, Result, Ok, Err, MatchOption, refl, sym, ◌∙◌, ap, subst}
use Rattle.std.proofs.lemmas.Bool.{cases_Bool}
use Rattle.std.proofs.lemmas.Option.{same_Some}
use Rattle.flow_turns.proofs.CareWords.{Answered, AreHeldHeads, AreRightHeads, Asked, Calls, CareFlow, Collect, Flush, Full, HasItsCause, Heads, HeadsHeld, HeadsValue, Holds, IsCalled, IsRight, Learn, Moment, NodeCall, NodeView, Raise, Refusal, Refused, Reply, Resolve, Running, SlotTurns, StandsOver, State, Store, TurnRuns, Unsure, called, calls_on, coordinator, ending, from_coordinator, from_shard, heads_told, in_slot, left, no_heads, of_coordinator, of_shard, out, over, ready, right_heads, shard, shard_flushed, shown_care, shows, still_of, stops, tells, with_call}
use Rattle.calls.specs.declared.call.ShardCall.TheVariants as shard_calls
use Rattle.calls.specs.declared.reply.CoordinatorReply.TheVariants as told
use Rattle.calls.specs.declared.reply.ShardReply.TheVariants as told_by
use Rattle.care_flow.specs.Cares as cares
use Rattle.care_flow.specs.Collecting.{Asks, CollectFlowValue, CollectGives, CollectStep, CollectView, Gives, ask, collect, flush, flush_to_collect}
use Rattle.stores.specs.Flows.{collecting, to_collect}
use Rattle.turns.proofs.ShardLearnSeam.{collects_quietly, refused_collects_have_cause}
use Rattle.flow_turns.proofs.AskedMore.{collect_told}
use Rattle.flow_turns.specs.CareTurns.{CollectsTurn}
use Rattle.flow_turns.proofs.Views.{IsFlow, LeadsTo, done_to, fails_to, goes_to, refuses_to}

module _ {D : Type 0} (state : D → State) (honest : D → Type 0) (moment : D → ℕ) (left_since : D → ℕ → List ℕ → Type 0)
    (counts_now : (d : D) (t : ℕ) (c : List ℕ) → honest d → t ≤ moment d → left (state d) c → left_since d t c) (only_now : (d : D) (c : List ℕ) → honest d → left_since d (moment d) c → left (state d) c)
    (store shards : ℕ) (old new : Store D) (slot s : ℕ) where
  module _ (h : HeadsHeld) where
    abbrev Leads : CollectView → Type 0
    Leads = LeadsTo state honest moment left_since store shards old new slot (to_collect s) refl CollectStep collecting h

    abbrev Is : Moment → Running → Type 0
    Is = IsFlow state honest moment left_since store shards old new slot (to_collect s) refl CollectStep collecting h

    calls_coordinator : Calls shards (to_collect s) (collecting h) coordinator
    calls_coordinator t same = cc

    held : (now : Moment) → StandsOver state honest store shards old now → (r : Running) → Is now r → AreHeldHeads shards (stops state honest store shards old.devices) now r h
    held now standing r flow = subst (λ (a : Asked). IsRight shards (stops state honest store shards old.devices) now r a (collecting h)) flow.asked_is
        (subst (λ (x : Holds). IsRight shards (stops state honest store shards old.devices) now r r.asked x) flow.holds_are (standing.stands.flows.held r flow.runs))

    -- it asks for the heads
    by_heads : (was is : NodeView D) (r : Result HeadsValue Refusal) (after : CollectView) → IsCalled state honest moment left_since store shards coordinator was is old new
        → Answered state honest moment left_since was (of_coordinator Heads) (from_coordinator (told.Heads r)) is → Gives h ask (from_coordinator (told.Heads r)) after → Leads after
    by_heads was is (Ok heads) after c so gives = subst Leads (sym gives) (goes_to state honest moment left_since store shards old new slot (to_collect s) refl CollectStep collecting h (record h { heads = Some heads }) (collect false) (λ now standing r flow.
        let it = heads_told state honest moment left_since counts_now only_now store shards old new now standing was is (Ok heads) c so in (
          now.nodes,
          now.machine,
          it.0,
          λ k. record {
            heads = λ x same. subst (AreRightHeads (with_call r (collecting (record h { heads = Some heads })) r.met now.machine) now.machine) (sym it.1.2 ∙ same_Some heads x same)
                (right_heads store shards (stops state honest store shards old.devices) now it.1.0 standing.stands it.1.1 r (collecting (record h { heads = Some heads })) flow.runs);
            batch = k.batch;
          },
        )))
    by_heads was is (Err e) after c so gives = subst Leads (sym gives) (fails_to state honest moment left_since store shards old new slot (to_collect s) refl CollectStep collecting h no_heads coordinator e calls_coordinator
        (λ now standing. heads_told state honest moment left_since counts_now only_now store shards old new now standing was is (Err e) c so))

    heads_replied : (was is : NodeView D) (reply : Reply) (after : CollectView) → IsCalled state honest moment left_since store shards coordinator was is old new
        → Answered state honest moment left_since was (of_coordinator Heads) reply is → Gives h ask reply after → Leads after
    heads_replied was is (from_coordinator (told.Heads r)) after c so gives = by_heads was is r after c so gives
    heads_replied was is reply after c so gives = absurd gives

    -- the shard collects up to their horizon
    by_collect : (heads : HeadsValue) → h.heads ≡ Some heads → (again : Bool) (was is : NodeView D) (back : HeadsValue) (r : Result (Unit {0}) Refusal) (after : CollectView)
        → IsCalled state honest moment left_since store shards (shard s) was is old new → Answered state honest moment left_since was (of_shard s (shard_calls.Collect heads)) (from_shard (told_by.Collect back r)) is
        → CollectGives (record h { heads = None }) again back r after → Leads after
    by_collect heads has again was is back (Ok x) after c so gives = subst Leads (sym gives) (goes_to state honest moment left_since store shards old new slot (to_collect s) refl CollectStep collecting h (record h { heads = None }) flush (λ now standing r flow.
        let it = (collect_told state honest moment left_since counts_now only_now store shards old new now standing s was is heads back (Ok x) c so).1 in
        let right = (held now standing r flow).heads heads has in
        let quiet = collects_quietly store shards (stops state honest store shards old.devices) state honest now it.0 s r standing.stands it.2 it.1 heads.horizon right.horizon it.3 in
        (_, now.machine, it.4 quiet.1, λ k. record { heads = λ y is_some. absurd (let bad : None ≡ Some y = is_some in cc); batch = k.batch })))
    by_collect heads has again was is back (Err e) after c so gives = ⊎_elim
        (λ full. ⊎_elim
        (λ twice. subst Leads (sym (gives.1 (inr twice))) refuses)
        (λ once. subst Leads (sym (gives.0 full once)) goes)
        (cases_Bool again))
        (λ other. subst Leads (sym (gives.1 (inl other))) refuses)
        (is_full e)
      where
        is_full : (f : Refusal) → (f ≡ Full) ⊎ (f ≢ Full)
        is_full Full = inl refl
        is_full f = inr (λ same. cc)

        no_full_is_unsure : Full ≢ Unsure
        no_full_is_unsure same = cc

        refuses : Leads (over no_heads (Refused e))
        refuses = refuses_to state honest moment left_since store shards old new slot (to_collect s) refl CollectStep collecting h no_heads e (λ now standing r flow.
            let it = (collect_told state honest moment left_since counts_now only_now store shards old new now standing s was is heads back (Err e) c so).1 in
            ⊎_elim
            (λ fails. (fails.0, now.machine, fails.1, fails.2 r (ending now fails.0 now.machine r []) refl (calls_on shards r (to_collect s) (collecting h) (shard s) flow.asked_is flow.holds_are (c.before.there, refl))))
            (λ told_so. (
              now.nodes,
              now.machine,
              still_of state honest moment left_since store shards old new now standing (shard s) told_so.0,
              subst (λ (f : Refusal). HasItsCause shards (shard s) now (ending now now.nodes now.machine r []) r f × (f ≢ Unsure)) (sym told_so.1.3.0)
                  (refused_collects_have_cause store shards (stops state honest store shards old.devices) state honest now (ending now now.nodes now.machine r []) told_so.1.0 s heads r standing.stands told_so.1.1 flow.asked_is told_so.1.2 told_so.1.3.1 told_so.1.3.2, no_full_is_unsure),
            ))
            it)

        goes : Leads (ready (record h { heads = Some back }) flush_to_collect)
        goes = goes_to state honest moment left_since store shards old new slot (to_collect s) refl CollectStep collecting h (record h { heads = Some back }) flush_to_collect (λ now standing r flow.
            let it = collect_told state honest moment left_since counts_now only_now store shards old new now standing s was is heads back (Err e) c so in
            ⊎_elim
            (λ fails. (fails.0, now.machine, fails.1, λ k. record { heads = λ y is_some. k.heads y (has ∙ ap (λ (x : HeadsValue). Some x) (sym it.0) ∙ is_some); batch = k.batch }))
            (λ told_so. (now.nodes, now.machine, told_so.0, λ k. record { heads = λ y is_some. k.heads y (has ∙ ap (λ (x : HeadsValue). Some x) (sym it.0) ∙ is_some); batch = k.batch }))
            it.1)

    collect_replied : (heads : HeadsValue) → h.heads ≡ Some heads → (again : Bool) (was is : NodeView D) (reply : Reply) (after : CollectView) → IsCalled state honest moment left_since store shards (shard s) was is old new
        → Answered state honest moment left_since was (of_shard s (shard_calls.Collect heads)) reply is → Gives (record h { heads = None }) (collect again) reply after → Leads after
    collect_replied heads has again was is (from_shard (told_by.Collect back r)) after c so gives = by_collect heads has again was is back r after c so gives
    collect_replied heads has again was is reply after c so gives = absurd gives

    -- the shard is flushed, and asked again or done
    flush_fails : (was is : NodeView D) (e : Refusal) → IsCalled state honest moment left_since store shards (shard s) was is old new
        → Answered state honest moment left_since was (of_shard s shard_calls.Flush) (from_shard (told_by.Flush (Err e))) is → Leads (over no_heads (Refused e))
    flush_fails was is e c so = fails_to state honest moment left_since store shards old new slot (to_collect s) refl CollectStep collecting h no_heads (shard s) e (c.before.there, refl)
        (λ now standing. shard_flushed state honest moment left_since counts_now only_now store shards old new now standing s was is (Err e) c so)

    flush_replied : (was is : NodeView D) (reply : Reply) (after : CollectView) → IsCalled state honest moment left_since store shards (shard s) was is old new
        → Answered state honest moment left_since was (of_shard s shard_calls.Flush) reply is → Gives h flush_to_collect reply after → Leads after
    flush_replied was is (from_shard (told_by.Flush (Ok x))) after c so gives = subst Leads (sym gives) (goes_to state honest moment left_since store shards old new slot (to_collect s) refl CollectStep collecting h h (collect true) (λ now standing r flow.
        let it = shard_flushed state honest moment left_since counts_now only_now store shards old new now standing s was is (Ok x) c so in
        (it.0, now.machine, it.1, λ k. k)))
    flush_replied was is (from_shard (told_by.Flush (Err e))) after c so gives = subst Leads (sym gives) (flush_fails was is e c so)
    flush_replied was is reply after c so gives = absurd gives

    last_replied : (was is : NodeView D) (reply : Reply) (after : CollectView) → IsCalled state honest moment left_since store shards (shard s) was is old new
        → Answered state honest moment left_since was (of_shard s shard_calls.Flush) reply is → Gives h flush reply after → Leads after
    last_replied was is (from_shard (told_by.Flush (Ok x))) after c so gives = subst Leads (sym gives) (done_to state honest moment left_since store shards old new slot (to_collect s) refl CollectStep collecting h no_heads (λ now standing r flow.
        let it = shard_flushed state honest moment left_since counts_now only_now store shards old new now standing s was is (Ok x) c so in
        (it.0, now.machine, it.1, tt)))
    last_replied was is (from_shard (told_by.Flush (Err e))) after c so gives = subst Leads (sym gives) (flush_fails was is e c so)
    last_replied was is reply after c so gives = absurd gives

    -- whichever call it makes
    by_step : (step : CollectStep) (call : NodeCall) (mid : CollectView) (reply : Reply) (after : CollectView) (was is : NodeView D) → Asks s h step call mid
        → MatchOption mid.awaited ⊥ (λ st. Gives mid.holds st reply after) → IsCalled state honest moment left_since store shards (called call) was is old new
        → Answered state honest moment left_since was call reply is → Leads after
    by_step ask call mid reply after was is asks gives c so = heads_replied was is reply after
        (subst (λ (x : NodeCall). IsCalled state honest moment left_since store shards (called x) was is old new) asks.0 c)
        (subst (λ (x : NodeCall). Answered state honest moment left_since was x reply is) asks.0 so)
        (subst (λ (m : CollectView). MatchOption m.awaited ⊥ (λ st. Gives m.holds st reply after)) asks.1 gives)
    by_step (collect again) call mid reply after was is asks gives c so = by_held h.heads refl asks
      where
        by_held : (o : Option HeadsValue) → h.heads ≡ o → MatchOption o ⊥ (λ heads. (call ≡ of_shard s (shard_calls.Collect heads)) × (mid ≡ out (record h { heads = None }) (collect again))) → Leads after
        by_held None has is_asked = absurd is_asked
        by_held (Some heads) has is_asked = collect_replied heads has again was is reply after
            (subst (λ (x : NodeCall). IsCalled state honest moment left_since store shards (called x) was is old new) is_asked.0 c)
            (subst (λ (x : NodeCall). Answered state honest moment left_since was x reply is) is_asked.0 so)
            (subst (λ (m : CollectView). MatchOption m.awaited ⊥ (λ st. Gives m.holds st reply after)) is_asked.1 gives)
    by_step flush_to_collect call mid reply after was is asks gives c so = flush_replied was is reply after
        (subst (λ (x : NodeCall). IsCalled state honest moment left_since store shards (called x) was is old new) asks.0 c)
        (subst (λ (x : NodeCall). Answered state honest moment left_since was x reply is) asks.0 so)
        (subst (λ (m : CollectView). MatchOption m.awaited ⊥ (λ st. Gives m.holds st reply after)) asks.1 gives)
    by_step flush call mid reply after was is asks gives c so = last_replied was is reply after
        (subst (λ (x : NodeCall). IsCalled state honest moment left_since store shards (called x) was is old new) asks.0 c)
        (subst (λ (x : NodeCall). Answered state honest moment left_since was x reply is) asks.0 so)
        (subst (λ (m : CollectView). MatchOption m.awaited ⊥ (λ st. Gives m.holds st reply after)) asks.1 gives)

    by_next : (next : Option CollectStep) (call : NodeCall) (mid : CollectView) (reply : Reply) (after : CollectView) (was is : NodeView D) (A : Type 0)
        → MatchOption next ((Some call ≡ None) × A) (λ step. Asks s h step call mid)
        → MatchOption mid.awaited ⊥ (λ st. Gives mid.holds st reply after) → IsCalled state honest moment left_since store shards (called call) was is old new
        → Answered state honest moment left_since was call reply is → Leads after
    by_next None call mid reply after was is A asks gives c so = absurd (let bad : Some call ≡ None = asks.0 in cc)
    by_next (Some step) call mid reply after was is A asks gives c so = by_step step call mid reply after was is asks gives c so

  -- as the flow is
  from_flows : (v w : CollectFlowValue) → v.shard ≡ s → (middle : CareFlow) (call : NodeCall) (reply : Reply) (was is : NodeView D) → cares.NextCall (Collect v) (Some call) middle → cares.Answered middle reply (Collect w)
      → IsCalled state honest moment left_since store shards (called call) was is old new → Answered state honest moment left_since was call reply is
      → SlotTurns slot (shows (Collect v)) (in_slot (shows (Collect w)) w.seen.ended) old new → TurnRuns state honest moment left_since store shards old slot (tells w.seen.ended ∷ []) new
  from_flows v w own (Collect mid) call reply was is asks gives c so turns =
      by_next v.seen.holds v.seen.next call mid.seen reply w.seen was is _
      (subst (λ (k : ℕ). MatchOption v.seen.next ((Some call ≡ None) × (mid.seen ≡ v.seen)) (λ step. Asks k v.seen.holds step call mid.seen)) own asks.1) gives.1 c so
      (subst (λ (k : ℕ). SlotTurns slot (shown_care (to_collect k) (collecting v.seen.holds)) (in_slot (shown_care (to_collect s) (collecting w.seen.holds)) w.seen.ended) old new) own
      (subst (λ (k : ℕ). SlotTurns slot (shown_care (to_collect v.shard) (collecting v.seen.holds)) (in_slot (shown_care (to_collect k) (collecting w.seen.holds)) w.seen.ended) old new) (gives.0 ∙ asks.0 ∙ own) turns))
  from_flows v w own (Flush mid) call reply was is asks gives c so turns = absurd asks
  from_flows v w own (Learn mid) call reply was is asks gives c so turns = absurd asks
  from_flows v w own (Resolve mid) call reply was is asks gives c so turns = absurd asks
  from_flows v w own (Raise mid) call reply was is asks gives c so turns = absurd asks

pub collects_turn : {D : Type 0} (state : D → State) (honest : D → Type 0) (moment : D → ℕ) (left_since : D → ℕ → List ℕ → Type 0)
    (counts_now : (d : D) (t : ℕ) (c : List ℕ) → honest d → t ≤ moment d → left (state d) c → left_since d t c) (only_now : (d : D) (c : List ℕ) → honest d → left_since d (moment d) c → left (state d) c)
    (store shards : ℕ) → CollectsTurn state honest moment left_since store shards
collects_turn state honest moment left_since counts_now only_now store shards v w old new slot t =
    from_flows state honest moment left_since counts_now only_now store shards old new slot v.shard v w refl t.out t.call t.reply t.was t.is t.asks t.gives t.called_is t.answers t.turns
