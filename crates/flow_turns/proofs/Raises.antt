-- A raise of the horizon takes its turn.
use Rattle.std.proofs.Common.{◌≡◌, ◌≢◌, ◌⊎◌, inl, inr, ⊎_elim, ◌≤◌, ◌<◌, ◌+◌, ◌^◌, ◌==◌, ◌++◌, ℕ, Bool, true, false, true≢false, List, [], ◌∷◌, Option, Some, None, Result, Ok, Err, MatchOption, All, refl, sym, ◌∙◌, ap, subst}
use Rattle.std.proofs.lemmas.Bool.{cases_Bool, cases_lt, eq-eqb, eqb-true}
use Rattle.std.proofs.lemmas.List.Elements.{All-push}
use Rattle.std.proofs.lemmas.Option.{same_Some}
use Rattle.std.specs.Global.{Vec}
use Rattle.flow_turns.proofs.CareWords.{Answered, AreRightHeads, Asked, AsksToCatchUp, BatchValue, CallName, Calls, CareFlow, CatchUpCallValue, CatchUpComes, CatchUpGives, CatchUpValue, Collect, Done, FailsQuietly, FitsItsTypes, Flush, Full, HasItsCause, HeadsValue, Holds, IsCalled, IsCatchingUp, IsRight, Learn, LetsLearn, Moment, Next, NoMemory, NodeCall, NodeName, NodeView, Progress, Raise, Refusal, Refused, Reply, Resolve, Running, SlotTurns, Stands, StandsOver, State, Store, TakesMemory, There, TurnRuns, Unsure, batch_of, behind_call, called, calls_on, caught_up, coordinator, coordinator_flushed, done, ended_by, ending, from_coordinator, from_shard, going_on, heads_told, in_slot, is_refused, left, name_of, of_coordinator, of_shard, on_its_way, out, over, ready, right_heads, same_way, shard, shard_flushed, shown_care, shows, still_of, stops, tells, whichever_next, with_call}
use Rattle.refusal.specs.declared.refusal.Refusal.TheVariants.{Collected, Future}
use Rattle.decisions.specs.Coordinators.{HaveSettled, heads_of}
use Rattle.decisions.specs.Flows.{RaiseHolds, nothing_raised}
use Rattle.decisions.specs.Standing.{IsSettled}
use Rattle.decisions.specs.Values.{SettledValue}
use Rattle.coordinator.specs.declared.raising.NotRaised.{NotRaised}
use Rattle.calls.specs.Belonging.{IsOwed, IsReplyTo}
use Rattle.calls.specs.declared.call.CoordinatorCall.TheVariants as coordinator_calls
use Rattle.calls.specs.declared.call.ShardCall.TheVariants as shard_calls
use Rattle.calls.specs.declared.reply.CoordinatorReply.TheVariants as told
use Rattle.calls.specs.declared.reply.ShardReply.TheVariants as told_by
use Rattle.catch_up.specs.CatchingUp as catching
use Rattle.care_flow.specs.Cares as cares
use Rattle.care_flow.specs.Raising.{Asks, FlushGives, Gives, GoesRound, ProgressGives, RaiseFlowValue, RaiseGives, RaiseStep, RaiseView, SettleGives, ask, catch_up, flush, flush_raised, flush_to_ask, flush_to_raise, raise, settle}
use Rattle.stores.specs.Flows.{raising, to_raise}
use Rattle.stores.specs.Held.{IsRightRaise, IsRightSettled}
use Rattle.stores.proofs.Batches.{shards_settle}
use Rattle.turns.specs.CoordinatorSeamLaws.{AsksAbove}
use Rattle.turns.specs.SeamLaws.{behind}
use Rattle.turns.proofs.AnswerTurns.{raises_end}
use Rattle.turns.proofs.CoordinatorCalls.{heads_have_cause}
use Rattle.turns.proofs.RaiseSeam.{raise_has_cause, raises_turn}
use Rattle.flow_turns.proofs.Belongs.{belongs_to}
use Rattle.flow_turns.proofs.RaiseTold.{raise_told, raised_devices, raised_made, settle_told}
use Rattle.flow_turns.specs.CareTurns.{RaisesTurn}
use Rattle.flow_turns.proofs.Views.{IsFlow, LeadsTo, ends_by, fails_to, goes_by, goes_to, refuses_to}

module _ {D : Type 0} (state : D → State) (honest : D → Type 0) (moment : D → ℕ) (left_since : D → ℕ → List ℕ → Type 0)
    (counts_now : (d : D) (t : ℕ) (c : List ℕ) → honest d → t ≤ moment d → left (state d) c → left_since d t c) (only_now : (d : D) (c : List ℕ) → honest d → left_since d (moment d) c → left (state d) c)
    (store shards : ℕ) (old new : Store D) (slot place : ℕ) where
  module _ (h : RaiseHolds) where
    abbrev Leads : RaiseView → Type 0
    Leads = LeadsTo state honest moment left_since store shards old new slot (to_raise place) refl RaiseStep raising h

    abbrev Is : Moment → Running → Type 0
    Is = IsFlow state honest moment left_since store shards old new slot (to_raise place) refl RaiseStep raising h

    calls_coordinator : Calls shards (to_raise place) (raising h) coordinator
    calls_coordinator t same = cc

    held : (now : Moment) → StandsOver state honest store shards old now → (r : Running) → Is now r → IsRightRaise shards (stops state honest store shards old.devices) now r place h
    held now standing r flow = subst (λ (a : Asked). IsRight shards (stops state honest store shards old.devices) now r a (raising h)) flow.asked_is
        (subst (λ (x : Holds). IsRight shards (stops state honest store shards old.devices) now r r.asked x) flow.holds_are (standing.stands.flows.held r flow.runs))

    -- if the coordinator is away, or a shard
    coordinator_fails : (e : Refusal) → ((now : Moment) (standing : StandsOver state honest store shards old now) → FailsQuietly state honest moment left_since store shards old new now standing coordinator e) → Leads (over nothing_raised (Refused e))
    coordinator_fails e fails = fails_to state honest moment left_since store shards old new slot (to_raise place) refl RaiseStep raising h nothing_raised coordinator e calls_coordinator fails

    shard_fails : (s : ℕ) (e : Refusal) → s < shards → ((now : Moment) (standing : StandsOver state honest store shards old now) → FailsQuietly state honest moment left_since store shards old new now standing (shard s) e) → Leads (over nothing_raised (Refused e))
    shard_fails s e there fails = fails_to state honest moment left_since store shards old new slot (to_raise place) refl RaiseStep raising h nothing_raised (shard s) e (there, tt) fails

    -- it goes on to a shard, or after the last one to the raise, with what it then holds
    goes_round : (k : RaiseHolds) (s : ℕ) (after : RaiseView) → ((step : RaiseStep) → Leads (ready k step)) → GoesRound shards k s after → Leads after
    goes_round k s after leads gives = ⊎_elim
        (λ (lt : s < shards). subst Leads (sym (gives.0 lt)) (leads (catch_up s None)))
        (λ (le : shards ≤ s). subst Leads (sym (gives.1 le)) (leads (raise false)))
        (cases_lt s shards)

    -- it asks for the heads
    by_heads : (was is : NodeView D) (r : Result HeadsValue Refusal) (after : RaiseView) → IsCalled state honest moment left_since store shards coordinator was is old new
        → Answered state honest moment left_since was (of_coordinator coordinator_calls.Heads) (from_coordinator (told.Heads r)) is → Gives shards place h ask (from_coordinator (told.Heads r)) after → Leads after
    by_heads was is (Err e) after c so gives = subst Leads (sym gives) (coordinator_fails e (λ now standing. heads_told state honest moment left_since counts_now only_now store shards old new now standing was is (Err e) c so))
    by_heads was is (Ok heads) after c so gives = ⊎_elim
        (λ (low : heads.kept < place). ⊎_elim
        (λ (short : heads.length < place). subst Leads (sym (gives.above low short)) (refuses_future low))
        (λ (long : place ≤ heads.length). subst Leads (sym (gives.staged low long)) same_holds)
        (cases_lt heads.length place))
        (λ (reach : place ≤ heads.kept). ⊎_elim
        (λ round. goes_round (record h { heads = Some heads }) 0 after with_heads round)
        (λ none. subst Leads (sym none) no_memory)
        (gives.reaches reach))
        (cases_lt heads.kept place)
      where
        no_memory : Leads (over nothing_raised (Refused NoMemory))
        no_memory = refuses_to state honest moment left_since store shards old new slot (to_raise place) refl RaiseStep raising h nothing_raised NoMemory (λ now standing r flow.
            let it = heads_told state honest moment left_since counts_now only_now store shards old new now standing was is (Ok heads) c so in
            (now.nodes, now.machine, it.0, (inl (subst TakesMemory (sym flow.asked_is) tt), λ same. cc)))

        refuses_future : heads.kept < place → Leads (over nothing_raised (Refused Future))
        refuses_future low = refuses_to state honest moment left_since store shards old new slot (to_raise place) refl RaiseStep raising h nothing_raised Future (λ now standing r flow.
            let it = heads_told state honest moment left_since counts_now only_now store shards old new now standing was is (Ok heads) c so in (
              now.nodes,
              now.machine,
              it.0,
              (
                inl ((heads_have_cause store shards (stops state honest store shards old.devices) D now now it.1.0 r standing.stands it.1.1).0
                    (subst (λ (a : Asked). AsksAbove (heads_of it.1.0) a) (sym flow.asked_is) (subst (λ (x : HeadsValue). x.kept < place) it.1.2 low))),
                λ same. cc,
              ),
            ))

        same_holds : Leads (ready h flush_to_ask)
        same_holds = goes_to state honest moment left_since store shards old new slot (to_raise place) refl RaiseStep raising h h flush_to_ask (λ now standing r flow.
            let it = heads_told state honest moment left_since counts_now only_now store shards old new now standing was is (Ok heads) c so in
            (now.nodes, now.machine, it.0, λ k. k))

        with_heads : (step : RaiseStep) → Leads (ready (record h { heads = Some heads }) step)
        with_heads step = goes_to state honest moment left_since store shards old new slot (to_raise place) refl RaiseStep raising h (record h { heads = Some heads }) step (λ now standing r flow.
            let it = heads_told state honest moment left_since counts_now only_now store shards old new now standing was is (Ok heads) c so in (
              now.nodes,
              now.machine,
              it.0,
              λ k. record {
                named = k.named;
                heads = λ x same. subst (AreRightHeads (with_call r (raising (record h { heads = Some heads })) r.met now.machine) now.machine) (sym it.1.2 ∙ same_Some heads x same)
                    (right_heads store shards (stops state honest store shards old.devices) now it.1.0 standing.stands it.1.1 r (raising (record h { heads = Some heads })) flow.runs);
                settled = k.settled;
                batch = k.batch;
                raised = k.raised;
              },
            ))

    -- a flush leads to what comes after it, with what is held
    by_coordinator_flush : (step : RaiseStep) (was is : NodeView D) (r : Result (Unit {0}) Refusal) (after : RaiseView) → IsCalled state honest moment left_since store shards coordinator was is old new
        → Answered state honest moment left_since was (of_coordinator coordinator_calls.Flush) (from_coordinator (told.Flush r)) is → FlushGives r (ready h step) after → Leads after
    by_coordinator_flush step was is (Err e) after c so gives = subst Leads (sym gives) (coordinator_fails e (λ now standing. coordinator_flushed state honest moment left_since counts_now only_now store shards old new now standing was is (Err e) c so))
    by_coordinator_flush step was is (Ok x) after c so gives = subst Leads (sym gives) (goes_to state honest moment left_since store shards old new slot (to_raise place) refl RaiseStep raising h h step (λ now standing r flow.
        let it = coordinator_flushed state honest moment left_since counts_now only_now store shards old new now standing was is (Ok x) c so in
        (it.0, _, it.2, λ k. k)))

    by_shard_flush : (s : ℕ) (step : RaiseStep) (was is : NodeView D) (r : Result (Unit {0}) Refusal) (after : RaiseView) → IsCalled state honest moment left_since store shards (shard s) was is old new
        → Answered state honest moment left_since was (of_shard s shard_calls.Flush) (from_shard (told_by.Flush r)) is → FlushGives r (ready h step) after → Leads after
    by_shard_flush s step was is (Err e) after c so gives = subst Leads (sym gives) (shard_fails s e c.before.there (λ now standing. shard_flushed state honest moment left_since counts_now only_now store shards old new now standing s was is (Err e) c so))
    by_shard_flush s step was is (Ok x) after c so gives = subst Leads (sym gives) (goes_to state honest moment left_since store shards old new slot (to_raise place) refl RaiseStep raising h h step (λ now standing r flow.
        let it = shard_flushed state honest moment left_since counts_now only_now store shards old new now standing s was is (Ok x) c so in
        (it.0, now.machine, it.1, λ k. k)))

    -- the last one is done, if the coordinator took the raise
    by_last_flush : h.is_raised ≡ true → (was is : NodeView D) (r : Result (Unit {0}) Refusal) (after : RaiseView) → IsCalled state honest moment left_since store shards coordinator was is old new
        → Answered state honest moment left_since was (of_coordinator coordinator_calls.Flush) (from_coordinator (told.Flush r)) is → after ≡ over nothing_raised (ended_by r) → Leads after
    by_last_flush raised was is (Err e) after c so gives = subst Leads (sym gives) (coordinator_fails e (λ now standing. coordinator_flushed state honest moment left_since counts_now only_now store shards old new now standing was is (Err e) c so))
    by_last_flush raised was is (Ok x) after c so gives = subst Leads (sym gives) (ends_by state honest moment left_since store shards old new slot (to_raise place) refl RaiseStep raising h nothing_raised Done done refl (λ now standing r flow.
        let it = coordinator_flushed state honest moment left_since counts_now only_now store shards old new now standing was is (Ok x) c so in
        let law = raises_end store shards (stops state honest store shards old.devices) (stops state honest store shards new.devices) now it.0 r place h standing.stands it.1 flow.runs flow.asked_is flow.holds_are raised in
        (it.0, _, it.2.1, law.0, law.1)))

    -- what a shard has settled is held, or the shard begins again
    by_settle : (s : ℕ) (was is : NodeView D) (r : Result SettledValue Refusal) (after : RaiseView) → IsCalled state honest moment left_since store shards (shard s) was is old new
        → Answered state honest moment left_since was (of_shard s shard_calls.Settle) (from_shard (told_by.Settle r)) is → SettleGives shards place h s r after → Leads after
    by_settle s was is (Err e) after c so gives = subst Leads (sym gives) (shard_fails s e c.before.there (λ now standing. settle_told state honest moment left_since counts_now only_now store shards old new now standing s was is (Err e) c so))
    by_settle s was is (Ok x) after c so gives = ⊎_elim
        (λ here. ⊎_elim
        (λ (low : x.place < place). subst Leads (sym (gives.1 (inr low))) again)
        (λ (enough : place ≤ x.place). goes_round (record h { settled = h.settled ++ x ∷ [] }) (s + 1) after (with_settled (eqb-true x.shard s here) enough) (gives.0 (eqb-true x.shard s here) enough))
        (cases_lt x.place place))
        (λ other. subst Leads (sym (gives.1 (inl (λ same. true≢false (sym (eq-eqb x.shard s same) ∙ other))))) again)
        (cases_Bool (x.shard == s))
      where
        again : Leads (ready h (catch_up s None))
        again = goes_to state honest moment left_since store shards old new slot (to_raise place) refl RaiseStep raising h h (catch_up s None) (λ now standing r flow.
            let it = settle_told state honest moment left_since counts_now only_now store shards old new now standing s was is (Ok x) c so in
            (now.nodes, now.machine, it.0, λ k. k))

        with_settled : x.shard ≡ s → place ≤ x.place → (step : RaiseStep) → Leads (ready (record h { settled = h.settled ++ x ∷ [] }) step)
        with_settled here enough step = goes_to state honest moment left_since store shards old new slot (to_raise place) refl RaiseStep raising h (record h { settled = h.settled ++ x ∷ [] }) step (λ now standing r flow.
            let it = settle_told state honest moment left_since counts_now only_now store shards old new now standing s was is (Ok x) c so in
            let learned = shards_settle store shards (stops state honest store shards new.devices) (behind_call now now.nodes now.machine) s x.place it.1.0.durable it.1.0.staged it.0.0.stands it.1.1.at it.1.3.place in (
              now.nodes,
              now.machine,
              it.0,
              λ k. record {
                named = k.named;
                heads = k.heads;
                settled = All-push (IsRightSettled shards (stops state honest store shards new.devices) place) h.settled x k.settled (record {
                  there = subst (λ (n : ℕ). n < shards) (sym here) c.before.there;
                  enough = enough;
                  learned = subst (λ (n : ℕ). IsSettled (stops state honest store shards new.devices (shard n)) x.place) (sym here) learned;
                });
                batch = k.batch;
                raised = k.raised;
              },
            ))

    -- the coordinator raises the horizon
    by_raise : (again : Bool) (all : Vec SettledValue) → all.items ≡ h.settled → HaveSettled shards place h.settled → place < 2 ^ 64 → (was is : NodeView D) (r : Result (Unit {0}) NotRaised) (after : RaiseView)
        → IsCalled state honest moment left_since store shards coordinator was is old new
        → Answered state honest moment left_since was (of_coordinator (coordinator_calls.Raise place all)) (from_coordinator (told.Raise r)) is → RaiseGives (record h { settled = [] }) again r after → Leads after
    by_raise again all same have fits was is (Ok x) after c so gives = subst Leads (sym gives) (goes_by state honest moment left_since store shards old new slot (to_raise place) refl RaiseStep raising h (record h { settled = []; is_raised = true }) flush_raised (λ now standing r flow.
        let it = raise_told state honest moment left_since counts_now only_now store shards old new now standing was is place all (Ok x) c so in
        let law = raises_turn store shards (stops state honest store shards old.devices) D now it.was it.is r place h standing.stands it.seen flow.runs flow.asked_is flow.holds_are it.raises have in
        let devices = raised_devices state honest moment left_since counts_now only_now store shards old new now standing it.was it.is it.called it.was_up place it.raises it.still_up in (
          behind now.nodes it.is now.nodes.open_writes,
          now.machine,
          raised_made state honest moment left_since counts_now only_now store shards old new now standing it.was it.is it.called it.was_up place it.raises it.still_up law.0 (held now standing r flow).named,
          subst (λ (f : NodeName → D × D). Stands store shards (stops state honest store shards f) (going_on now (behind now.nodes it.is now.nodes.open_writes) now.machine (with_call r (raising (record h { settled = []; is_raised = true })) r.met now.machine)))
              (sym devices) law.1,
          law.2,
        )))
    by_raise again all same have fits was is (Err back) after c so gives = ⊎_elim
        (λ full. ⊎_elim
        (λ twice. subst Leads (sym (gives.1 (inr twice))) refuses)
        (λ once. subst Leads (sym (gives.0 full once)) goes)
        (cases_Bool again))
        (λ other. subst Leads (sym (gives.1 (inl other))) refuses)
        (is_full back.refusal)
      where
        is_full : (f : Refusal) → (f ≡ Full) ⊎ (f ≢ Full)
        is_full Full = inl refl
        is_full f = inr (λ is_f. cc)

        no_full_is_unsure : Full ≢ Unsure
        no_full_is_unsure is_f = cc

        no_future_is_unsure : Future ≢ Unsure
        no_future_is_unsure is_f = cc

        no_collected_is_unsure : Collected ≢ Unsure
        no_collected_is_unsure is_f = cc

        refuses : Leads (over nothing_raised (Refused back.refusal))
        refuses = refuses_to state honest moment left_since store shards old new slot (to_raise place) refl RaiseStep raising h nothing_raised back.refusal (λ now standing r flow.
            let it = (raise_told state honest moment left_since counts_now only_now store shards old new now standing was is place all (Err back) c so).1 in
            ⊎_elim
            (λ fails. (fails.0, now.machine, fails.1, fails.2 r (ending now fails.0 now.machine r []) refl (calls_on shards r (to_raise place) (raising h) coordinator flow.asked_is flow.holds_are calls_coordinator)))
            (λ told_so.
            let cause = raise_has_cause store shards (stops state honest store shards old.devices) D now now told_so.1.0 r place standing.stands told_so.1.1 flow.asked_is fits in (
              now.nodes,
              now.machine,
              still_of state honest moment left_since store shards old new now standing coordinator told_so.0,
              ⊎_elim
                  (λ collected. subst (λ (f : Refusal). HasItsCause shards coordinator now (ending now now.nodes now.machine r []) r f × (f ≢ Unsure)) (sym collected.0) (inl (cause.1 collected.1), no_collected_is_unsure))
                  (λ rest. ⊎_elim
                  (λ future. subst (λ (f : Refusal). HasItsCause shards coordinator now (ending now now.nodes now.machine r []) r f × (f ≢ Unsure)) (sym future.0) (inl (cause.0 future.1), no_future_is_unsure))
                  (λ full. subst (λ (f : Refusal). HasItsCause shards coordinator now (ending now now.nodes now.machine r []) r f × (f ≢ Unsure)) (sym full.0) (inl (cause.2 full.1), no_full_is_unsure))
                  rest)
                  told_so.1.2,
            ))
            it)

        goes : Leads (ready (record h { settled = back.settled.items }) flush_to_raise)
        goes = goes_to state honest moment left_since store shards old new slot (to_raise place) refl RaiseStep raising h (record h { settled = back.settled.items }) flush_to_raise (λ now standing r flow.
            let it = raise_told state honest moment left_since counts_now only_now store shards old new now standing was is place all (Err back) c so in
            let given_back : h.settled ≡ back.settled.items = sym (it.0 ∙ same) in
            ⊎_elim
            (λ fails. (
              fails.0,
              now.machine,
              fails.1,
              λ k. record {
                named = k.named;
                heads = k.heads;
                settled = subst (All (IsRightSettled shards (stops state honest store shards new.devices) place)) given_back k.settled;
                batch = k.batch;
                raised = k.raised;
              },
            ))
            (λ told_so. (
              now.nodes,
              now.machine,
              told_so.0,
              λ k. record {
                named = k.named;
                heads = k.heads;
                settled = subst (All (IsRightSettled shards (stops state honest store shards new.devices) place)) given_back k.settled;
                batch = k.batch;
                raised = k.raised;
              },
            ))
            it.1)

    -- it brings a shard to the kept place of the heads
    module _ (s : ℕ) (heads : HeadsValue) (has : h.heads ≡ Some heads) where
      abbrev way : CallName → Option ℕ → Bool → CatchUpValue
      way name from flushed = record (on_its_way s heads.kept h.batch) { next = name; from = from; flushed = flushed }

      on : (name : CallName) (from : Option ℕ) (flushed : Bool) (now : Moment) (standing : StandsOver state honest store shards old now) (r : Running) → Is now r → IsCatchingUp state honest moment left_since counts_now only_now store shards old new now standing r (way name from flushed)
      on name from flushed now standing r flow =
          let k = held now standing r flow in record {
            runs = flow.runs;
            calls_coordinator = calls_on shards r (to_raise place) (raising h) coordinator flow.asked_is flow.holds_are calls_coordinator;
            calls_shard = λ there. calls_on shards r (to_raise place) (raising h) (shard s) flow.asked_is flow.holds_are (there, tt);
            lets = subst LetsLearn (sym flow.asked_is) tt;
            kept = (k.heads heads has).kept;
            held = ap batch_of flow.holds_are;
            right = k.batch;
          }

      abbrev Comes : Progress → Type 0
      Comes progress = (now : Moment) (standing : StandsOver state honest store shards old now) (r : Running) → Is now r → CatchUpComes state honest moment left_since counts_now only_now store shards old new now standing r s heads.kept progress

      by_progress : (progress : Progress) (batch : Option BatchValue) (after : RaiseView) → Comes progress → ProgressGives (record h { batch = batch }) s progress after → Leads after
      by_progress (Next caught) batch after comes gives = subst Leads (sym gives) (goes_to state honest moment left_since store shards old new slot (to_raise place) refl RaiseStep raising h (record h { batch = caught.batch }) (catch_up s None)
          (λ now standing r flow. let it = comes now standing r flow in (it.0, now.machine, it.1, λ k. record { named = k.named; heads = k.heads; settled = k.settled; batch = it.2; raised = k.raised })))
      by_progress There batch after comes gives = subst Leads (sym gives) (goes_to state honest moment left_since store shards old new slot (to_raise place) refl RaiseStep raising h (record h { batch = None }) (flush s)
          (λ now standing r flow. let it = comes now standing r flow in (it.0, now.machine, it.1, λ k. record { named = k.named; heads = k.heads; settled = k.settled; batch = λ b is. absurd (let bad : None ≡ Some b = is in cc); raised = k.raised })))
      by_progress (is_refused e) batch after comes gives = subst Leads (sym gives) (refuses_to state honest moment left_since store shards old new slot (to_raise place) refl RaiseStep raising h nothing_raised e
          (λ now standing r flow. let it = comes now standing r flow in (it.0, now.machine, it.1, it.2 (ending now it.0 now.machine r []) refl)))

    by_way : (s : ℕ) (o : Option HeadsValue) → h.heads ≡ o → (call : NodeCall) (mid : RaiseView) (reply : Reply) (after : RaiseView) (was is : NodeView D)
        → MatchOption o ⊥ (λ heads. AsksToCatchUp (on_its_way s heads.kept h.batch) call (λ batch awaited. mid ≡ out (record h { batch = batch }) (catch_up s (Some awaited))))
        → MatchOption mid.awaited ⊥ (λ step. Gives shards place mid.holds step reply after) → FitsItsTypes call → IsCalled state honest moment left_since store shards (called call) was is old new
        → Answered state honest moment left_since was call reply is → Leads after
    by_way s None has call mid reply after was is asks gives fits c so = absurd asks
    by_way s (Some heads) has call mid reply after was is (then, (from, flushed, asks), mid_is) gives fits c so =
        let given = subst (λ (m : RaiseView). MatchOption m.awaited ⊥ (λ step. Gives shards place m.holds step reply after)) mid_is gives in
        let it = subst (λ (o : Option HeadsValue). MatchOption o ⊥ (λ heads. CatchUpGives (on_its_way s heads.kept then.held.batch) then.awaited reply (λ progress. ProgressGives (record h { batch = then.held.batch }) s progress after))) has given in
        let same : then ≡ record { held = record (on_its_way s heads.kept then.held.batch) { next = then.held.next; from = then.held.from; flushed = then.held.flushed }; awaited = then.awaited } = ap (λ (x : CatchUpValue). record { held = x; awaited = then.awaited }) (same_way (way s heads has (name_of call) from flushed) call then asks) in
        by_progress s heads has it.0 then.held.batch after (λ now standing r flow. caught_up state honest moment left_since counts_now only_now store shards old new now standing r (way s heads has (name_of call) from flushed) (on s heads has (name_of call) from flushed now standing r flow) call then reply it.0 was is asks fits c so
        (subst (λ (t : CatchUpCallValue). catching.Gives t reply it.0) (sym same) (whichever_next (record { held = on_its_way s heads.kept then.held.batch; awaited = then.awaited }) then.held.next then.held.from then.held.flushed reply it.0 it.1))) it.2

    -- the reply, by the step that waits for it
    heads_replied : (was is : NodeView D) (reply : Reply) (after : RaiseView) → IsCalled state honest moment left_since store shards coordinator was is old new
        → Answered state honest moment left_since was (of_coordinator coordinator_calls.Heads) reply is → Gives shards place h ask reply after → Leads after
    heads_replied was is (from_coordinator (told.Heads r)) after c so gives = by_heads was is r after c so gives
    heads_replied was is reply after c so gives = absurd gives

    first_flush_replied : (was is : NodeView D) (reply : Reply) (after : RaiseView) → IsCalled state honest moment left_since store shards coordinator was is old new
        → Answered state honest moment left_since was (of_coordinator coordinator_calls.Flush) reply is → IsReplyTo (of_coordinator coordinator_calls.Flush) reply → Gives shards place h flush_to_ask reply after → Leads after
    first_flush_replied was is (from_coordinator (told.Flush r)) after c so belongs gives = by_coordinator_flush ask was is r after c so gives
    first_flush_replied was is reply after c so belongs gives = absurd belongs

    second_flush_replied : (was is : NodeView D) (reply : Reply) (after : RaiseView) → IsCalled state honest moment left_since store shards coordinator was is old new
        → Answered state honest moment left_since was (of_coordinator coordinator_calls.Flush) reply is → IsReplyTo (of_coordinator coordinator_calls.Flush) reply → Gives shards place h flush_to_raise reply after → Leads after
    second_flush_replied was is (from_coordinator (told.Flush r)) after c so belongs gives = by_coordinator_flush (raise true) was is r after c so gives
    second_flush_replied was is reply after c so belongs gives = absurd belongs

    last_flush_replied : h.is_raised ≡ true → (was is : NodeView D) (reply : Reply) (after : RaiseView) → IsCalled state honest moment left_since store shards coordinator was is old new
        → Answered state honest moment left_since was (of_coordinator coordinator_calls.Flush) reply is → IsReplyTo (of_coordinator coordinator_calls.Flush) reply → Gives shards place h flush_raised reply after → Leads after
    last_flush_replied raised was is (from_coordinator (told.Flush r)) after c so belongs gives = by_last_flush raised was is r after c so gives
    last_flush_replied raised was is reply after c so belongs gives = absurd belongs

    shard_flush_replied : (s : ℕ) (was is : NodeView D) (reply : Reply) (after : RaiseView) → IsCalled state honest moment left_since store shards (shard s) was is old new
        → Answered state honest moment left_since was (of_shard s shard_calls.Flush) reply is → IsReplyTo (of_shard s shard_calls.Flush) reply → Gives shards place h (flush s) reply after → Leads after
    shard_flush_replied s was is (from_shard (told_by.Flush r)) after c so belongs gives = by_shard_flush s (settle s) was is r after c so gives
    shard_flush_replied s was is reply after c so belongs gives = absurd belongs

    settle_replied : (s : ℕ) (was is : NodeView D) (reply : Reply) (after : RaiseView) → IsCalled state honest moment left_since store shards (shard s) was is old new
        → Answered state honest moment left_since was (of_shard s shard_calls.Settle) reply is → IsReplyTo (of_shard s shard_calls.Settle) reply → Gives shards place h (settle s) reply after → Leads after
    settle_replied s was is (from_shard (told_by.Settle r)) after c so belongs gives = by_settle s was is r after c so gives
    settle_replied s was is reply after c so belongs gives = absurd belongs

    raise_replied : (again : Bool) (all : Vec SettledValue) → all.items ≡ h.settled → HaveSettled shards place h.settled → place < 2 ^ 64 → (was is : NodeView D) (reply : Reply) (after : RaiseView)
        → IsCalled state honest moment left_since store shards coordinator was is old new
        → Answered state honest moment left_since was (of_coordinator (coordinator_calls.Raise place all)) reply is → IsReplyTo (of_coordinator (coordinator_calls.Raise place all)) reply
        → Gives shards place (record h { settled = [] }) (raise again) reply after → Leads after
    raise_replied again all same have fits was is (from_coordinator (told.Raise r)) after c so belongs gives = by_raise again all same have fits was is r after c so gives
    raise_replied again all same have fits was is reply after c so belongs gives = absurd belongs

    belongs_here : (call : NodeCall) (reply : Reply) (was is : NodeView D) → IsCalled state honest moment left_since store shards (called call) was is old new → IsOwed shards call
        → Answered state honest moment left_since was call reply is → IsReplyTo call reply
    belongs_here call reply was is c owed so = belongs_to state honest moment left_since store shards old new call reply was is c owed so

    -- whichever call it makes
    module _ (call : NodeCall) (mid : RaiseView) (reply : Reply) (after : RaiseView) (was is : NodeView D) (gives : MatchOption mid.awaited ⊥ (λ st. Gives shards place mid.holds st reply after)) (fits : FitsItsTypes call)
        (c : IsCalled state honest moment left_since store shards (called call) was is old new) (so : Answered state honest moment left_since was call reply is) where
      c_as : (x : NodeCall) → call ≡ x → IsCalled state honest moment left_since store shards (called x) was is old new
      c_as x e = subst (λ (y : NodeCall). IsCalled state honest moment left_since store shards (called y) was is old new) e c

      so_as : (x : NodeCall) → call ≡ x → Answered state honest moment left_since was x reply is
      so_as x e = subst (λ (y : NodeCall). Answered state honest moment left_since was y reply is) e so

      gives_as : (m : RaiseView) → mid ≡ m → MatchOption m.awaited ⊥ (λ st. Gives shards place m.holds st reply after)
      gives_as m e = subst (λ (y : RaiseView). MatchOption y.awaited ⊥ (λ st. Gives shards place y.holds st reply after)) e gives

      by_step : (step : RaiseStep) → Asks shards place h step call mid → Leads after
      by_step ask asks = heads_replied was is reply after (c_as _ asks.0) (so_as _ asks.0) (gives_as _ asks.1)
      by_step flush_to_ask asks = first_flush_replied was is reply after (c_as _ asks.0) (so_as _ asks.0) (belongs_here _ reply was is (c_as _ asks.0) tt (so_as _ asks.0)) (gives_as _ asks.1)
      by_step (catch_up s is_out) asks = by_way s h.heads refl call mid reply after was is asks gives fits c so
      by_step (flush s) asks = shard_flush_replied s was is reply after (c_as _ asks.0) (so_as _ asks.0) (belongs_here _ reply was is (c_as _ asks.0) tt (so_as _ asks.0)) (gives_as _ asks.1)
      by_step (settle s) asks = settle_replied s was is reply after (c_as _ asks.0) (so_as _ asks.0) (belongs_here _ reply was is (c_as _ asks.0) tt (so_as _ asks.0)) (gives_as _ asks.1)
      by_step (raise again) (have, (all, same, call_is, mid_is)) = raise_replied again all same have (subst FitsItsTypes call_is fits) was is reply after (c_as _ call_is) (so_as _ call_is)
          (belongs_here _ reply was is (c_as _ call_is) (subst (HaveSettled shards place) (sym same) have) (so_as _ call_is)) (gives_as _ mid_is)
      by_step flush_to_raise asks = second_flush_replied was is reply after (c_as _ asks.0) (so_as _ asks.0) (belongs_here _ reply was is (c_as _ asks.0) tt (so_as _ asks.0)) (gives_as _ asks.1)
      by_step flush_raised asks = last_flush_replied asks.0 was is reply after (c_as _ asks.1) (so_as _ asks.1) (belongs_here _ reply was is (c_as _ asks.1) tt (so_as _ asks.1)) (gives_as _ asks.2)

      by_next : (next : Option RaiseStep) (A : Type 0) → MatchOption next ((Some call ≡ None) × A) (λ step. Asks shards place h step call mid) → Leads after
      by_next None A asks = absurd (let bad : Some call ≡ None = asks.0 in cc)
      by_next (Some step) A asks = by_step step asks

  -- as the flow is
  from_flows : (v w : RaiseFlowValue) → v.shards ≡ shards → v.place ≡ place → (middle : CareFlow) (call : NodeCall) (reply : Reply) (was is : NodeView D) → cares.NextCall (Raise v) (Some call) middle → cares.Answered middle reply (Raise w)
      → FitsItsTypes call → IsCalled state honest moment left_since store shards (called call) was is old new → Answered state honest moment left_since was call reply is
      → SlotTurns slot (shows (Raise v)) (in_slot (shows (Raise w)) w.seen.ended) old new → TurnRuns state honest moment left_since store shards old slot (tells w.seen.ended ∷ []) new
  from_flows v w many own (Raise mid) call reply was is asks gives fits c so turns =
      by_next v.seen.holds call mid.seen reply w.seen was is
      (subst (λ (k : ℕ). MatchOption mid.seen.awaited ⊥ (λ st. Gives shards k mid.seen.holds st reply w.seen)) (asks.1 ∙ own)
      (subst (λ (n : ℕ). MatchOption mid.seen.awaited ⊥ (λ st. Gives n mid.place mid.seen.holds st reply w.seen)) (asks.0 ∙ many) gives.2)) fits c so v.seen.next _
      (subst (λ (k : ℕ). MatchOption v.seen.next ((Some call ≡ None) × (mid.seen ≡ v.seen)) (λ step. Asks shards k v.seen.holds step call mid.seen)) own
      (subst (λ (n : ℕ). MatchOption v.seen.next ((Some call ≡ None) × (mid.seen ≡ v.seen)) (λ step. Asks n v.place v.seen.holds step call mid.seen)) many asks.2))
      (subst (λ (k : ℕ). SlotTurns slot (shown_care (to_raise k) (raising v.seen.holds)) (in_slot (shown_care (to_raise place) (raising w.seen.holds)) w.seen.ended) old new) own
      (subst (λ (k : ℕ). SlotTurns slot (shown_care (to_raise v.place) (raising v.seen.holds)) (in_slot (shown_care (to_raise k) (raising w.seen.holds)) w.seen.ended) old new) (gives.1 ∙ asks.1 ∙ own) turns))
  from_flows v w many own (Flush mid) call reply was is asks gives fits c so turns = absurd asks
  from_flows v w many own (Learn mid) call reply was is asks gives fits c so turns = absurd asks
  from_flows v w many own (Resolve mid) call reply was is asks gives fits c so turns = absurd asks
  from_flows v w many own (Collect mid) call reply was is asks gives fits c so turns = absurd asks

pub raises_take_their_turn : {D : Type 0} (state : D → State) (honest : D → Type 0) (moment : D → ℕ) (left_since : D → ℕ → List ℕ → Type 0)
    (counts_now : (d : D) (t : ℕ) (c : List ℕ) → honest d → t ≤ moment d → left (state d) c → left_since d t c) (only_now : (d : D) (c : List ℕ) → honest d → left_since d (moment d) c → left (state d) c)
    (store shards : ℕ) → RaisesTurn state honest moment left_since store shards
raises_take_their_turn state honest moment left_since counts_now only_now store shards v w old new slot t =
    from_flows state honest moment left_since counts_now only_now store shards old new slot v.place v w t.there refl t.out t.call t.reply t.was t.is t.asks t.gives t.fits t.called_is t.answers t.turns
