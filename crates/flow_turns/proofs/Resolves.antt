-- A resolution of the writes in doubt at a shard takes its turn.
use Rattle.std.proofs.Common.{◌≡◌, ◌≢◌, ⊎_elim, inl, ◌≤◌, ◌<◌, ℕ, Bool, List, [], ◌∷◌, map, length, slice_get, Option, Some, None, Result, Ok, Err, MatchOption, All, refl, sym, ◌∙◌, ap, subst}
use Rattle.std.proofs.lemmas.List.Elements.{All-contains, All-push}
use Rattle.std.proofs.lemmas.Option.{same_Some}
use Rattle.std.specs.Global.{Vec}
use Rattle.flow_turns.proofs.CareWords.{Answered, Asked, BatchValue, CallName, Calls, CareFlow, CatchUpCallValue, CatchUpComes, CatchUpValue, Collect, FailsQuietly, FitsItsTypes, Flush, HasItsCause, Holds, IsCalled, IsCatchingUp, IsQuietlyMade, IsRight, Learn, LetsLearn, Machine, Moment, Next, NoMemory, NodeCall, NodeName, NodeView, Nodes, Progress, Raise, Record, Refusal, Refused, Reply, Resolve, Running, SlotTurns, StandsOver, State, Store, TakesMemory, There, TurnRuns, Unsure, batch_of, behind_call, called, calls_on, caught_up, coordinator, ending, from_coordinator, from_shard, in_slot, is_refused, left, name_of, of_coordinator, of_shard, on_its_way, over, ready, same_way, shard, shown_care, shows, stops, tells, whichever_next}
use Rattle.tuples.specs.declared.entry.WriteId.{WriteId}
use Rattle.decisions.specs.Flows as flows
use Rattle.decisions.specs.Flows.{ResolveHolds, aborted, committed, undecided}
use Rattle.decisions.specs.Values.{VerdictValue}
use Rattle.coordinator.specs.declared.telling.Inquiry.{Inquiry}
use Rattle.coordinator.specs.declared.telling.Inquiry.TheVariants.{Commit, Abort, Undecided}
use Rattle.calls.specs.declared.call.CoordinatorCall.TheVariants as coordinator_calls
use Rattle.calls.specs.declared.call.ShardCall.TheVariants as shard_calls
use Rattle.calls.specs.declared.reply.CoordinatorReply.TheVariants as told
use Rattle.calls.specs.declared.reply.ShardReply.TheVariants as told_by
use Rattle.catch_up.specs.CatchingUp as catching
use Rattle.care_flow.specs.Cares as cares
use Rattle.care_flow.specs.Ends.{resolved_value}
use Rattle.care_flow.specs.Resolving.{Asks, DoubtsGive, DropGives, Gives, GoesThrough, HasCommitted, InquiryGives, ProgressGives, ResolveFlowValue, ResolveStep, ResolveView, catch_up, drop_write, finding, in_doubt, inquire}
use Rattle.care_flow.specs.declared.end.CareEnd.TheVariants.{Resolved as all_resolved}
use Rattle.care_flow.specs.declared.end.Resolved.{Resolved}
use Rattle.stores.specs.Flows.{resolving, to_resolve}
use Rattle.stores.specs.Held.{IfHeld, IsRightResolve, IsRightResolved, IsRightVerdict}
use Rattle.stores.specs.Replies.{IsResolved, resolved}
use Rattle.turns.proofs.AnswerTurns.{resolves_end}
use Rattle.turns.proofs.CoordinatorCalls.{inquiries_answer}
use Rattle.turns.proofs.ShardLearnSeam.{drops_quietly}
use Rattle.flow_turns.proofs.ResolveTold.{doubts_told, drop_told, inquire_told}
use Rattle.flow_turns.specs.CareTurns.{ResolvesTurn}
use Rattle.flow_turns.proofs.Views.{IsFlow, LeadsTo, Quietly, RefusedQuietly, ends_by, fails_to, goes_to, refuses_to}

module _ {D : Type 0} (state : D → State) (honest : D → Type 0) (moment : D → ℕ) (left_since : D → ℕ → List ℕ → Type 0)
    (counts_now : (d : D) (t : ℕ) (c : List ℕ) → honest d → t ≤ moment d → left (state d) c → left_since d t c) (only_now : (d : D) (c : List ℕ) → honest d → left_since d (moment d) c → left (state d) c)
    (store shards : ℕ) (old new : Store D) (slot s : ℕ) where
  abbrev after : NodeName → List Record → Type 0
  after = stops state honest store shards new.devices

  module _ (h : ResolveHolds) where
    abbrev Leads : ResolveView → Type 0
    Leads = LeadsTo state honest moment left_since store shards old new slot (to_resolve s) refl ResolveStep resolving h

    abbrev Is : Moment → Running → Type 0
    Is = IsFlow state honest moment left_since store shards old new slot (to_resolve s) refl ResolveStep resolving h

    -- at each moment for which the store stands, the call was quiet, and then this is right after it
    abbrev RightBehind : ResolveHolds → Type 0
    RightBehind k = Quietly state honest moment left_since store shards old new slot (to_resolve s) refl ResolveStep resolving h (λ now standing r next m.
        IsRightResolve shards after (behind_call now next m) h → IsRightResolve shards after (behind_call now next m) k)

    calls_coordinator : Calls shards (to_resolve s) (resolving h) coordinator
    calls_coordinator t same = cc

    held : (now : Moment) → StandsOver state honest store shards old now → (r : Running) → Is now r → IsRightResolve shards (stops state honest store shards old.devices) now h
    held now standing r flow = subst (λ (a : Asked). IsRight shards (stops state honest store shards old.devices) now r a (resolving h)) flow.asked_is
        (subst (λ (x : Holds). IsRight shards (stops state honest store shards old.devices) now r r.asked x) flow.holds_are (standing.stands.flows.held r flow.runs))

    held_behind : (now : Moment) (standing : StandsOver state honest store shards old now) (r : Running) → Is now r → (next : Nodes) (m : Machine) → IsQuietlyMade state honest moment left_since store shards old new now standing next m
        → IsRightResolve shards after (behind_call now next m) h
    held_behind now standing r flow next m quiet = subst (λ (a : Asked). IsRight shards after (behind_call now next m) r a (resolving h)) flow.asked_is
        (subst (λ (x : Holds). IsRight shards after (behind_call now next m) r r.asked x) flow.holds_are (quiet.0.stands.flows.held r flow.runs))

    leads_on : (k : ResolveHolds) (step : ResolveStep) → RightBehind k → Leads (ready k step)
    leads_on k step right = goes_to state honest moment left_since store shards old new slot (to_resolve s) refl ResolveStep resolving h k step (λ now standing r flow.
        let it = right now standing r flow in (it.0, it.1, it.2, it.3))

    refuses : (k : ResolveHolds) (e : Refusal) → RefusedQuietly state honest moment left_since store shards old new slot (to_resolve s) refl ResolveStep resolving h e → Leads (over k (Refused e))
    refuses k e cause = refuses_to state honest moment left_since store shards old new slot (to_resolve s) refl ResolveStep resolving h k e cause

    shard_fails : (k : ResolveHolds) (e : Refusal) → s < shards → ((now : Moment) (standing : StandsOver state honest store shards old now) → FailsQuietly state honest moment left_since store shards old new now standing (shard s) e) → Leads (over k (Refused e))
    shard_fails k e there fails = fails_to state honest moment left_since store shards old new slot (to_resolve s) refl ResolveStep resolving h k (shard s) e (there, refl) fails

    -- it goes on to the next write, or answers all that it found
    goes_through : (doubts : List WriteId) (k : ResolveHolds) (after_it : ResolveView) → RightBehind k → GoesThrough doubts k after_it → Leads after_it
    goes_through doubts k after_it right gives = by_next (slice_get doubts (length k.found)) gives
      where
        by_next : (o : Option WriteId) → MatchOption o ((all : Vec Resolved) × (map resolved_value all.items ≡ k.found) × (after_it ≡ over k (all_resolved all))) (λ id. after_it ≡ ready k (inquire id)) → Leads after_it
        by_next (Some id) is = subst Leads (sym is) (leads_on k (inquire id) right)
        by_next None (all, found, is) = subst Leads (sym is) (ends_by state honest moment left_since store shards old new slot (to_resolve s) refl ResolveStep resolving h k (all_resolved all) (resolved (map resolved_value all.items)) refl (λ now standing r flow.
            let it = right now standing r flow in
            let are = (it.3 (held_behind now standing r flow it.0 it.1 it.2)).found in
            let law = resolves_end store shards (stops state honest store shards old.devices) after now it.0 it.1 r s (map resolved_value all.items) it.2.0 flow.runs flow.asked_is
            (subst (All (IsRightResolved shards after (behind_call now it.0 it.1))) (sym found) are) in
            (it.0, it.1, it.2.1, law.0, law.1)))

    -- the shard tells which writes are in doubt there
    by_doubts : (was is : NodeView D) (r : Result (Vec WriteId) Refusal) (ids : List WriteId) (after_it : ResolveView) → IsCalled state honest moment left_since store shards (shard s) was is old new
        → Answered state honest moment left_since was (of_shard s shard_calls.InDoubt) (from_shard (told_by.InDoubt r)) is → DoubtsGive h r ids after_it → Leads after_it
    by_doubts was is (Ok found) ids after_it c so gives = ⊎_elim
        (λ known. goes_through ids h after_it (λ now standing r flow. (now.nodes, now.machine, doubts_told state honest moment left_since counts_now only_now store shards old new now standing s was is (Ok found) c so, λ k. k)) known.1)
        (λ none. subst Leads (sym none) (refuses h NoMemory (λ now standing r flow. (
          now.nodes,
          now.machine,
          doubts_told state honest moment left_since counts_now only_now store shards old new now standing s was is (Ok found) c so,
          (inl (subst TakesMemory (sym flow.asked_is) tt), λ same. cc),
        ))))
        gives
    by_doubts was is (Err e) ids after_it c so gives = subst Leads (sym gives) (refuses h e (λ now standing r flow. ⊎_elim
        (λ fails. (fails.0, now.machine, fails.1, fails.2 r (ending now fails.0 now.machine r []) refl (calls_on shards r (to_resolve s) (resolving h) (shard s) flow.asked_is flow.holds_are (c.before.there, refl))))
        (λ none. (now.nodes, now.machine, none.0, subst (λ (f : Refusal). HasItsCause shards none.0.0.node now (ending now now.nodes now.machine r []) r f × (f ≢ Unsure)) (sym none.1) (inl (subst TakesMemory (sym flow.asked_is) tt), λ same. cc)))
        (doubts_told state honest moment left_since counts_now only_now store shards old new now standing s was is (Err e) c so)))

    -- one more was found, with a verdict on it or none
    found_one : (x : flows.Resolved) (verdict : Option WriteId) (right : Quietly state honest moment left_since store shards old new slot (to_resolve s) refl ResolveStep resolving h (λ now standing r next m.
        IsRightResolved shards after (behind_call now next m) x × IfHeld verdict (IsRightVerdict shards after (behind_call now next m)))) → RightBehind (finding x verdict h)
    found_one x verdict right now standing r flow =
        let it = right now standing r flow in
        (it.0, it.1, it.2, λ k. record { found = All-push (IsRightResolved shards after (behind_call now it.0 it.1)) h.found x k.found it.3.0; verdict = it.3.1; batch = k.batch })

    no_verdict : (now : Moment) → IfHeld None (IsRightVerdict shards after now)
    no_verdict now id is = absurd (let bad : None ≡ Some id = is in cc)

    -- the coordinator tells what became of one
    by_inquiry : (doubts : List WriteId) (id : WriteId) (was is : NodeView D) (r : Result Inquiry Refusal) (after_it : ResolveView) → IsCalled state honest moment left_since store shards coordinator was is old new
        → Answered state honest moment left_since was (of_coordinator (coordinator_calls.Inquire id)) (from_coordinator (told.Inquire r)) is → InquiryGives doubts h id r after_it → Leads after_it
    by_inquiry doubts id was is (Err e) after_it c so gives = subst Leads (sym gives) (fails_to state honest moment left_since store shards old new slot (to_resolve s) refl ResolveStep resolving h h coordinator e calls_coordinator
        (λ now standing. inquire_told state honest moment left_since counts_now only_now store shards old new now standing was is id (Err e) c so))
    by_inquiry doubts id was is (Ok (Commit place)) after_it c so gives = subst Leads (sym gives) (leads_on (finding (committed id place) None h) (catch_up place None) (found_one (committed id place) None (λ now standing r flow.
        let it = inquire_told state honest moment left_since counts_now only_now store shards old new now standing was is id (Ok (Commit place)) c so in
        let right = inquiries_answer store shards after D (behind_call now now.nodes now.machine) it.1.0 id it.0.0.stands it.1.1 in
        (now.nodes, now.machine, it.0, (right.0 place it.1.2, no_verdict (behind_call now now.nodes now.machine))))))
    by_inquiry doubts id was is (Ok (Abort verdict)) after_it c so gives = subst Leads (sym gives) (leads_on (finding (aborted id) (Some verdict.id) h) drop_write (found_one (aborted id) (Some verdict.id) (λ now standing r flow.
        let it = inquire_told state honest moment left_since counts_now only_now store shards old new now standing was is id (Ok (Abort verdict)) c so in
        let right = (inquiries_answer store shards after D (behind_call now now.nodes now.machine) it.1.0 id it.0.0.stands it.1.1).1 it.1.2.1 in
        (now.nodes, now.machine, it.0, (right, λ x same. subst (IsRightVerdict shards after (behind_call now now.nodes now.machine)) (sym it.1.2.0 ∙ same_Some verdict.id x same) right)))))
    by_inquiry doubts id was is (Ok Undecided) after_it c so gives = goes_through doubts (finding (undecided id) None h) after_it (found_one (undecided id) None (λ now standing r flow.
        let it = inquire_told state honest moment left_since counts_now only_now store shards old new now standing was is id (Ok Undecided) c so in
        (now.nodes, now.machine, it.0, (tt, no_verdict (behind_call now now.nodes now.machine))))) gives

    -- the shard drops one that was aborted
    by_drop : (doubts : List WriteId) (verdict back : VerdictValue) → h.verdict ≡ Some verdict.id → (was is : NodeView D) (r : Result (Unit {0}) Refusal) (after_it : ResolveView) → IsCalled state honest moment left_since store shards (shard s) was is old new
        → Answered state honest moment left_since was (of_shard s (shard_calls.DropWrite verdict None)) (from_shard (told_by.DropWrite back r)) is → DropGives doubts (record h { verdict = None }) r after_it → Leads after_it
    by_drop doubts verdict back has was is (Err e) after_it c so gives = subst Leads (sym gives) (shard_fails (record h { verdict = None }) e c.before.there
        (λ now standing. drop_told state honest moment left_since counts_now only_now store shards old new now standing s was is verdict back (Err e) c so))
    by_drop doubts verdict back has was is (Ok x) after_it c so gives = goes_through doubts (record h { verdict = None }) after_it (λ now standing r flow.
        let it = drop_told state honest moment left_since counts_now only_now store shards old new now standing s was is verdict back (Ok x) c so in
        let quiet = drops_quietly store shards (stops state honest store shards old.devices) state honest now it.0 s r standing.stands it.2 it.1 verdict.id ((held now standing r flow).verdict verdict.id has) it.3 in
        (_, now.machine, it.4 quiet.1, λ k. record { found = k.found; verdict = λ y none. absurd (let bad : None ≡ Some y = none in cc); batch = k.batch })) gives

    -- it brings the shard to the place of a write that was decided
    module _ (to : ℕ) (decided : HasCommitted h.found to) where
      abbrev way : CallName → Option ℕ → Bool → CatchUpValue
      way name from flushed = record (on_its_way s to h.batch) { next = name; from = from; flushed = flushed }

      on : (name : CallName) (from : Option ℕ) (flushed : Bool) (now : Moment) (standing : StandsOver state honest store shards old now) (r : Running) → Is now r → IsCatchingUp state honest moment left_since counts_now only_now store shards old new now standing r (way name from flushed)
      on name from flushed now standing r flow =
          let k = held now standing r flow in
          let is_so : IsResolved now.machine (committed decided.0 to) = All-contains (IsRightResolved shards (stops state honest store shards old.devices) now) h.found (committed decided.0 to) k.found decided.1 in
          record {
            runs = flow.runs;
            calls_coordinator = calls_on shards r (to_resolve s) (resolving h) coordinator flow.asked_is flow.holds_are calls_coordinator;
            calls_shard = λ there. calls_on shards r (to_resolve s) (resolving h) (shard s) flow.asked_is flow.holds_are (there, refl);
            lets = subst LetsLearn (sym flow.asked_is) tt;
            kept = is_so.2;
            held = ap batch_of flow.holds_are;
            right = k.batch;
          }

      abbrev Comes : Progress → Type 0
      Comes progress = (now : Moment) (standing : StandsOver state honest store shards old now) (r : Running) → Is now r → CatchUpComes state honest moment left_since counts_now only_now store shards old new now standing r s to progress

      by_progress : (doubts : List WriteId) (progress : Progress) (batch : Option BatchValue) (after_it : ResolveView) → Comes progress → ProgressGives doubts (record h { batch = batch }) to progress after_it → Leads after_it
      by_progress doubts (Next caught) batch after_it comes gives = subst Leads (sym gives) (leads_on (record h { batch = caught.batch }) (catch_up to None)
          (λ now standing r flow. let it = comes now standing r flow in (it.0, now.machine, it.1, λ k. record { found = k.found; verdict = k.verdict; batch = it.2 })))
      by_progress doubts There batch after_it comes gives = goes_through doubts (record h { batch = None }) after_it
          (λ now standing r flow. let it = comes now standing r flow in (it.0, now.machine, it.1, λ k. record { found = k.found; verdict = k.verdict; batch = λ b none. absurd (let bad : None ≡ Some b = none in cc) })) gives
      by_progress doubts (is_refused e) batch after_it comes gives = subst Leads (sym gives) (refuses (record h { batch = None }) e
          (λ now standing r flow. let it = comes now standing r flow in (it.0, now.machine, it.1, it.2 (ending now it.0 now.machine r []) refl)))

    -- the reply, by the step that waits for it
    doubts_replied : (doubts ids : List WriteId) (was is : NodeView D) (reply : Reply) (after_it : ResolveView) → IsCalled state honest moment left_since store shards (shard s) was is old new
        → Answered state honest moment left_since was (of_shard s shard_calls.InDoubt) reply is → Gives s doubts h in_doubt reply ids after_it → Leads after_it
    doubts_replied doubts ids was is (from_shard (told_by.InDoubt r)) after_it c so gives = by_doubts was is r ids after_it c so gives
    doubts_replied doubts ids was is reply after_it c so gives = absurd gives

    inquiry_replied : (doubts ids : List WriteId) (id : WriteId) (was is : NodeView D) (reply : Reply) (after_it : ResolveView) → IsCalled state honest moment left_since store shards coordinator was is old new
        → Answered state honest moment left_since was (of_coordinator (coordinator_calls.Inquire id)) reply is → Gives s doubts h (inquire id) reply ids after_it → Leads after_it
    inquiry_replied doubts ids id was is (from_coordinator (told.Inquire r)) after_it c so gives = by_inquiry doubts id was is r after_it c so gives.1
    inquiry_replied doubts ids id was is reply after_it c so gives = absurd gives

    drop_replied : (doubts ids : List WriteId) (verdict : VerdictValue) → h.verdict ≡ Some verdict.id → (was is : NodeView D) (reply : Reply) (after_it : ResolveView) → IsCalled state honest moment left_since store shards (shard s) was is old new
        → Answered state honest moment left_since was (of_shard s (shard_calls.DropWrite verdict None)) reply is → Gives s doubts (record h { verdict = None }) drop_write reply ids after_it → Leads after_it
    drop_replied doubts ids verdict has was is (from_shard (told_by.DropWrite back r)) after_it c so gives = by_drop doubts verdict back has was is r after_it c so gives.1
    drop_replied doubts ids verdict has was is reply after_it c so gives = absurd gives

    -- whichever call it makes
    module _ (doubts ids : List WriteId) (call : NodeCall) (mid : ResolveView) (reply : Reply) (after_it : ResolveView) (was is : NodeView D) (gives : MatchOption mid.awaited ⊥ (λ st. Gives s doubts mid.holds st reply ids after_it))
        (fits : FitsItsTypes call) (c : IsCalled state honest moment left_since store shards (called call) was is old new) (so : Answered state honest moment left_since was call reply is) where
      c_as : (x : NodeCall) → call ≡ x → IsCalled state honest moment left_since store shards (called x) was is old new
      c_as x e = subst (λ (y : NodeCall). IsCalled state honest moment left_since store shards (called y) was is old new) e c

      so_as : (x : NodeCall) → call ≡ x → Answered state honest moment left_since was x reply is
      so_as x e = subst (λ (y : NodeCall). Answered state honest moment left_since was y reply is) e so

      gives_as : (m : ResolveView) → mid ≡ m → MatchOption m.awaited ⊥ (λ st. Gives s doubts m.holds st reply ids after_it)
      gives_as m e = subst (λ (y : ResolveView). MatchOption y.awaited ⊥ (λ st. Gives s doubts y.holds st reply ids after_it)) e gives

      by_step : (step : ResolveStep) → Asks s h step call mid → Leads after_it
      by_step in_doubt asks = doubts_replied doubts ids was is reply after_it (c_as _ asks.0) (so_as _ asks.0) (gives_as _ asks.1)
      by_step (inquire id) asks = inquiry_replied doubts ids id was is reply after_it (c_as _ asks.0) (so_as _ asks.0) (gives_as _ asks.1)
      by_step (catch_up to is_out) (decided, (then, (from, flushed, asks), mid_is)) =
          let it = (gives_as _ mid_is).1 in
          let same : then ≡ record { held = record (on_its_way s to then.held.batch) { next = then.held.next; from = then.held.from; flushed = then.held.flushed }; awaited = then.awaited } = ap (λ (x : CatchUpValue). record { held = x; awaited = then.awaited }) (same_way (way to decided (name_of call) from flushed) call then asks) in
          by_progress to decided doubts it.0 then.held.batch after_it (λ now standing r flow. caught_up state honest moment left_since counts_now only_now store shards old new now standing r (way to decided (name_of call) from flushed) (on to decided (name_of call) from flushed now standing r flow) call then reply it.0 was is asks fits c so
          (subst (λ (t : CatchUpCallValue). catching.Gives t reply it.0) (sym same) (whichever_next (record { held = on_its_way s to then.held.batch; awaited = then.awaited }) then.held.next then.held.from then.held.flushed reply it.0 it.1))) it.2
      by_step drop_write (verdict, has, call_is, mid_is) = drop_replied doubts ids verdict has was is reply after_it (c_as _ call_is) (so_as _ call_is) (gives_as _ mid_is)

      by_next : (next : Option ResolveStep) (A : Type 0) → MatchOption next ((Some call ≡ None) × A) (λ step. Asks s h step call mid) → Leads after_it
      by_next None A asks = absurd (let bad : Some call ≡ None = asks.0 in cc)
      by_next (Some step) A asks = by_step step asks

  -- as the flow is
  from_flows : (v w : ResolveFlowValue) → v.shard ≡ s → (middle : CareFlow) (call : NodeCall) (reply : Reply) (was is : NodeView D) → cares.NextCall (Resolve v) (Some call) middle → cares.Answered middle reply (Resolve w)
      → FitsItsTypes call → IsCalled state honest moment left_since store shards (called call) was is old new → Answered state honest moment left_since was call reply is
      → SlotTurns slot (shows (Resolve v)) (in_slot (shows (Resolve w)) w.seen.ended) old new → TurnRuns state honest moment left_since store shards old slot (tells w.seen.ended ∷ []) new
  from_flows v w own (Resolve mid) call reply was is asks gives fits c so turns =
      by_next v.seen.holds mid.doubts w.doubts call mid.seen reply w.seen was is
      (subst (λ (k : ℕ). MatchOption mid.seen.awaited ⊥ (λ st. Gives k mid.doubts mid.seen.holds st reply w.doubts w.seen)) (asks.0 ∙ own) gives.1) fits c so v.seen.next _
      (subst (λ (k : ℕ). MatchOption v.seen.next ((Some call ≡ None) × (mid.seen ≡ v.seen)) (λ step. Asks k v.seen.holds step call mid.seen)) own asks.2)
      (subst (λ (k : ℕ). SlotTurns slot (shown_care (to_resolve k) (resolving v.seen.holds)) (in_slot (shown_care (to_resolve s) (resolving w.seen.holds)) w.seen.ended) old new) own
      (subst (λ (k : ℕ). SlotTurns slot (shown_care (to_resolve v.shard) (resolving v.seen.holds)) (in_slot (shown_care (to_resolve k) (resolving w.seen.holds)) w.seen.ended) old new) (gives.0 ∙ asks.0 ∙ own) turns))
  from_flows v w own (Flush mid) call reply was is asks gives fits c so turns = absurd asks
  from_flows v w own (Learn mid) call reply was is asks gives fits c so turns = absurd asks
  from_flows v w own (Raise mid) call reply was is asks gives fits c so turns = absurd asks
  from_flows v w own (Collect mid) call reply was is asks gives fits c so turns = absurd asks

pub resolves_turn : {D : Type 0} (state : D → State) (honest : D → Type 0) (moment : D → ℕ) (left_since : D → ℕ → List ℕ → Type 0)
    (counts_now : (d : D) (t : ℕ) (c : List ℕ) → honest d → t ≤ moment d → left (state d) c → left_since d t c) (only_now : (d : D) (c : List ℕ) → honest d → left_since d (moment d) c → left (state d) c)
    (store shards : ℕ) → ResolvesTurn state honest moment left_since store shards
resolves_turn state honest moment left_since counts_now only_now store shards v w old new slot t =
    from_flows state honest moment left_since counts_now only_now store shards old new slot v.shard v w refl t.out t.call t.reply t.was t.is t.asks t.gives t.fits t.called_is t.answers t.turns
