-- A shard's learning takes its turn.
use Rattle.std.proofs.Common.{◌≡◌, ◌≤◌, ℕ, Bool, List, [], ◌∷◌, Option, Some, None, Result, Ok, Err, MatchOption, refl, sym, ◌∙◌, ap, subst}
use Rattle.std.proofs.lemmas.Option.{same_Some}
use Rattle.flow_turns.proofs.CareWords.{Answered, AreHeldHeads, AreRightHeads, Asked, AsksToCatchUp, BatchValue, CallName, Calls, CareFlow, CatchUpCallValue, CatchUpComes, CatchUpGives, CatchUpValue, Collect, FitsItsTypes, Flush, Heads, HeadsHeld, HeadsValue, Holds, IsCalled, IsCatchingUp, IsRight, Learn, LetsLearn, Moment, Next, NodeCall, NodeView, Progress, Raise, Refusal, Reply, Resolve, Running, SlotTurns, StandsOver, State, Store, There, TurnRuns, batch_of, called, calls_on, caught_up, coordinator, ending, from_coordinator, heads_told, in_slot, is_refused, left, name_of, no_heads, of_coordinator, on_its_way, out, right_heads, same_way, shard, shown_care, shows, stops, tells, whichever_next, with_call}
use Rattle.calls.specs.declared.reply.CoordinatorReply.TheVariants as told
use Rattle.catch_up.specs.CatchingUp as catching
use Rattle.care_flow.specs.Cares as cares
use Rattle.care_flow.specs.Learning.{Asks, Gives, LearnFlowValue, LearnStep, LearnView, ProgressGives, ask, catch_up}
use Rattle.stores.specs.Flows.{learning, to_learn}
use Rattle.turns.proofs.SeesOn.{heads_on}
use Rattle.flow_turns.specs.CareTurns.{LearnsTurn}
use Rattle.flow_turns.proofs.Views.{IsFlow, LeadsTo, done_to, fails_to, goes_to, refuses_to}

module _ {D : Type 0} (state : D → State) (honest : D → Type 0) (moment : D → ℕ) (left_since : D → ℕ → List ℕ → Type 0)
    (counts_now : (d : D) (t : ℕ) (c : List ℕ) → honest d → t ≤ moment d → left (state d) c → left_since d t c) (only_now : (d : D) (c : List ℕ) → honest d → left_since d (moment d) c → left (state d) c)
    (store shards : ℕ) (old new : Store D) (slot s : ℕ) where
  module _ (h : HeadsHeld) where
    abbrev Leads : LearnView → Type 0
    Leads = LeadsTo state honest moment left_since store shards old new slot (to_learn s) refl LearnStep learning h

    abbrev Is : Moment → Running → Type 0
    Is = IsFlow state honest moment left_since store shards old new slot (to_learn s) refl LearnStep learning h

    calls_coordinator : Calls shards (to_learn s) (learning h) coordinator
    calls_coordinator t same = cc

    held : (now : Moment) → StandsOver state honest store shards old now → (r : Running) → Is now r → AreHeldHeads shards (stops state honest store shards old.devices) now r h
    held now standing r flow = subst (λ (a : Asked). IsRight shards (stops state honest store shards old.devices) now r a (learning h)) flow.asked_is
        (subst (λ (x : Holds). IsRight shards (stops state honest store shards old.devices) now r r.asked x) flow.holds_are (standing.stands.flows.held r flow.runs))

    -- it asks for the heads
    by_heads : (was is : NodeView D) (r : Result HeadsValue Refusal) (after : LearnView) → IsCalled state honest moment left_since store shards coordinator was is old new
        → Answered state honest moment left_since was (of_coordinator Heads) (from_coordinator (told.Heads r)) is → Gives s h ask (from_coordinator (told.Heads r)) after → Leads after
    by_heads was is (Ok heads) after c so gives = subst Leads (sym gives) (goes_to state honest moment left_since store shards old new slot (to_learn s) refl LearnStep learning h (record h { heads = Some heads }) (catch_up None) (λ now standing r flow.
        let it = heads_told state honest moment left_since counts_now only_now store shards old new now standing was is (Ok heads) c so in (
          now.nodes,
          now.machine,
          it.0,
          λ k. record {
            heads = λ x same. subst (AreRightHeads (with_call r (learning (record h { heads = Some heads })) r.met now.machine) now.machine) (sym it.1.2 ∙ same_Some heads x same)
                (right_heads store shards (stops state honest store shards old.devices) now it.1.0 standing.stands it.1.1 r (learning (record h { heads = Some heads })) flow.runs);
            batch = k.batch;
          },
        )))
    by_heads was is (Err e) after c so gives = subst Leads (sym gives) (fails_to state honest moment left_since store shards old new slot (to_learn s) refl LearnStep learning h no_heads coordinator e calls_coordinator
        (λ now standing. heads_told state honest moment left_since counts_now only_now store shards old new now standing was is (Err e) c so))

    heads_replied : (was is : NodeView D) (reply : Reply) (after : LearnView) → IsCalled state honest moment left_since store shards coordinator was is old new
        → Answered state honest moment left_since was (of_coordinator Heads) reply is → Gives s h ask reply after → Leads after
    heads_replied was is (from_coordinator (told.Heads r)) after c so gives = by_heads was is r after c so gives
    heads_replied was is reply after c so gives = absurd gives

    -- it brings the shard to their kept place
    module _ (heads : HeadsValue) (has : h.heads ≡ Some heads) where
      abbrev way : CallName → Option ℕ → Bool → CatchUpValue
      way name from flushed = record (on_its_way s heads.kept h.batch) { next = name; from = from; flushed = flushed }

      on : (name : CallName) (from : Option ℕ) (flushed : Bool) (now : Moment) (standing : StandsOver state honest store shards old now) (r : Running) → Is now r → IsCatchingUp state honest moment left_since counts_now only_now store shards old new now standing r (way name from flushed)
      on name from flushed now standing r flow =
          let k = held now standing r flow in record {
            runs = flow.runs;
            calls_coordinator = calls_on shards r (to_learn s) (learning h) coordinator flow.asked_is flow.holds_are calls_coordinator;
            calls_shard = λ there. calls_on shards r (to_learn s) (learning h) (shard s) flow.asked_is flow.holds_are (there, refl);
            lets = subst LetsLearn (sym flow.asked_is) tt;
            kept = (k.heads heads has).kept;
            held = ap batch_of flow.holds_are;
            right = k.batch;
          }

      abbrev Comes : Progress → Type 0
      Comes progress = (now : Moment) (standing : StandsOver state honest store shards old now) (r : Running) → Is now r → CatchUpComes state honest moment left_since counts_now only_now store shards old new now standing r s heads.kept progress

      by_progress : (progress : Progress) (batch : Option BatchValue) (after : LearnView) → Comes progress → ProgressGives (record h { batch = batch }) progress after → Leads after
      by_progress (Next caught) batch after comes gives = subst Leads (sym gives) (goes_to state honest moment left_since store shards old new slot (to_learn s) refl LearnStep learning h (record h { batch = caught.batch }) (catch_up None)
          (λ now standing r flow. let it = comes now standing r flow in (it.0, now.machine, it.1, λ k. record { heads = k.heads; batch = it.2 })))
      by_progress There batch after comes gives = subst Leads (sym gives) (done_to state honest moment left_since store shards old new slot (to_learn s) refl LearnStep learning h no_heads
          (λ now standing r flow.
          let it = comes now standing r flow in
          (it.0, now.machine, it.1, record { kept = heads.kept; was = (heads_on r r.holds now.machine now.machine heads ((held now standing r flow).heads heads has)).was; memory = it.2.0; knows = it.2.1; learned = it.2.2 })))
      by_progress (is_refused e) batch after comes gives = subst Leads (sym gives) (refuses_to state honest moment left_since store shards old new slot (to_learn s) refl LearnStep learning h no_heads e
          (λ now standing r flow. let it = comes now standing r flow in (it.0, now.machine, it.1, it.2 (ending now it.0 now.machine r []) refl)))

    by_way : (o : Option HeadsValue) → h.heads ≡ o → (call : NodeCall) (mid : LearnView) (reply : Reply) (after : LearnView) (was is : NodeView D)
        → MatchOption o ⊥ (λ heads. AsksToCatchUp (on_its_way s heads.kept h.batch) call (λ batch awaited. mid ≡ out (record h { batch = batch }) (catch_up (Some awaited))))
        → MatchOption mid.awaited ⊥ (λ step. Gives s mid.holds step reply after) → FitsItsTypes call → IsCalled state honest moment left_since store shards (called call) was is old new
        → Answered state honest moment left_since was call reply is → Leads after
    by_way None has call mid reply after was is asks gives fits c so = absurd asks
    by_way (Some heads) has call mid reply after was is (then, (from, flushed, asks), mid_is) gives fits c so =
        let given = subst (λ (m : LearnView). MatchOption m.awaited ⊥ (λ step. Gives s m.holds step reply after)) mid_is gives in
        let it = subst (λ (o : Option HeadsValue). MatchOption o ⊥ (λ heads. CatchUpGives (on_its_way s heads.kept then.held.batch) then.awaited reply (λ progress. ProgressGives (record h { batch = then.held.batch }) progress after))) has given in
        let same : then ≡ record { held = record (on_its_way s heads.kept then.held.batch) { next = then.held.next; from = then.held.from; flushed = then.held.flushed }; awaited = then.awaited } = ap (λ (x : CatchUpValue). record { held = x; awaited = then.awaited }) (same_way (way heads has (name_of call) from flushed) call then asks) in
        by_progress heads has it.0 then.held.batch after (λ now standing r flow. caught_up state honest moment left_since counts_now only_now store shards old new now standing r (way heads has (name_of call) from flushed) (on heads has (name_of call) from flushed now standing r flow) call then reply it.0 was is asks fits c so
        (subst (λ (t : CatchUpCallValue). catching.Gives t reply it.0) (sym same) (whichever_next (record { held = on_its_way s heads.kept then.held.batch; awaited = then.awaited }) then.held.next then.held.from then.held.flushed reply it.0 it.1))) it.2

    -- whichever call it makes
    by_step : (step : LearnStep) (call : NodeCall) (mid : LearnView) (reply : Reply) (after : LearnView) (was is : NodeView D) → Asks s h step call mid
        → MatchOption mid.awaited ⊥ (λ st. Gives s mid.holds st reply after) → FitsItsTypes call → IsCalled state honest moment left_since store shards (called call) was is old new
        → Answered state honest moment left_since was call reply is → Leads after
    by_step ask call mid reply after was is asks gives fits c so = heads_replied was is reply after
        (subst (λ (x : NodeCall). IsCalled state honest moment left_since store shards (called x) was is old new) asks.0 c)
        (subst (λ (x : NodeCall). Answered state honest moment left_since was x reply is) asks.0 so)
        (subst (λ (m : LearnView). MatchOption m.awaited ⊥ (λ st. Gives s m.holds st reply after)) asks.1 gives)
    by_step (catch_up is_out) call mid reply after was is asks gives fits c so = by_way h.heads refl call mid reply after was is asks gives fits c so

    by_next : (next : Option LearnStep) (call : NodeCall) (mid : LearnView) (reply : Reply) (after : LearnView) (was is : NodeView D) (A : Type 0)
        → MatchOption next ((Some call ≡ None) × A) (λ step. Asks s h step call mid)
        → MatchOption mid.awaited ⊥ (λ st. Gives s mid.holds st reply after) → FitsItsTypes call → IsCalled state honest moment left_since store shards (called call) was is old new
        → Answered state honest moment left_since was call reply is → Leads after
    by_next None call mid reply after was is A asks gives fits c so = absurd (let bad : Some call ≡ None = asks.0 in cc)
    by_next (Some step) call mid reply after was is A asks gives fits c so = by_step step call mid reply after was is asks gives fits c so

  -- as the flow is
  from_flows : (v w : LearnFlowValue) → v.shard ≡ s → (middle : CareFlow) (call : NodeCall) (reply : Reply) (was is : NodeView D) → cares.NextCall (Learn v) (Some call) middle → cares.Answered middle reply (Learn w)
      → FitsItsTypes call → IsCalled state honest moment left_since store shards (called call) was is old new → Answered state honest moment left_since was call reply is
      → SlotTurns slot (shows (Learn v)) (in_slot (shows (Learn w)) w.seen.ended) old new → TurnRuns state honest moment left_since store shards old slot (tells w.seen.ended ∷ []) new
  from_flows v w own (Learn mid) call reply was is asks gives fits c so turns =
      let mid_own = asks.0 ∙ own in
      by_next v.seen.holds v.seen.next call mid.seen reply w.seen was is _
      (subst (λ (k : ℕ). MatchOption v.seen.next ((Some call ≡ None) × (mid.seen ≡ v.seen)) (λ step. Asks k v.seen.holds step call mid.seen)) own asks.1)
      (subst (λ (k : ℕ). MatchOption mid.seen.awaited ⊥ (λ st. Gives k mid.seen.holds st reply w.seen)) mid_own gives.1) fits c so
      (subst (λ (k : ℕ). SlotTurns slot (shown_care (to_learn k) (learning v.seen.holds)) (in_slot (shown_care (to_learn s) (learning w.seen.holds)) w.seen.ended) old new) own
      (subst (λ (k : ℕ). SlotTurns slot (shown_care (to_learn v.shard) (learning v.seen.holds)) (in_slot (shown_care (to_learn k) (learning w.seen.holds)) w.seen.ended) old new) (gives.0 ∙ mid_own) turns))
  from_flows v w own (Flush mid) call reply was is asks gives fits c so turns = absurd asks
  from_flows v w own (Resolve mid) call reply was is asks gives fits c so turns = absurd asks
  from_flows v w own (Raise mid) call reply was is asks gives fits c so turns = absurd asks
  from_flows v w own (Collect mid) call reply was is asks gives fits c so turns = absurd asks

pub learns_turn : {D : Type 0} (state : D → State) (honest : D → Type 0) (moment : D → ℕ) (left_since : D → ℕ → List ℕ → Type 0)
    (counts_now : (d : D) (t : ℕ) (c : List ℕ) → honest d → t ≤ moment d → left (state d) c → left_since d t c) (only_now : (d : D) (c : List ℕ) → honest d → left_since d (moment d) c → left (state d) c)
    (store shards : ℕ) → LearnsTurn state honest moment left_since store shards
learns_turn state honest moment left_since counts_now only_now store shards v w old new slot t =
    from_flows state honest moment left_since counts_now only_now store shards old new slot v.shard v w refl t.out t.call t.reply t.was t.is t.asks t.gives t.fits t.called_is t.answers t.turns
