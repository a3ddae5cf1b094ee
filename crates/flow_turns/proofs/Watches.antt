-- A watch takes its turn.
use Rattle.std.proofs.Common.{◌≡◌, ◌≢◌, ⊎_elim, inl, ◌≤◌, ◌+◌, ◌-◌, ℕ, List, [], ◌∷◌, length, Some, None, Result, Ok, Err, MatchOption, refl, sym, ◌∙◌, ap, subst, arith}
use Rattle.std.proofs.lemmas.Option.{same_Some}
use Rattle.tuples.specs.Limits.{max_watched}
use Rattle.flow_turns.proofs.AnswerWords.{Answered, AreRightHeads, Asked, BatchValue, Calls, Collected, FailsQuietly, HasItsCause, HeadsValue, IsCalled, Moment, NoMemory, NodeCall, NodeView, Refusal, Reply, Running, SlotTurns, StandsOver, State, Store, TakesMemory, TurnRuns, Unsure, answered, called, calls_on, coordinator, coordinator_flushed, ending, from_coordinator, heads_told, left, of_coordinator, of_shard, right_heads, runs, shown_answer, stops, the_flow, with_call}
use Rattle.tuples.specs.Watching.{events_from}
use Rattle.decisions.specs.Flows.{HeadsHeld, no_heads}
use Rattle.calls.specs.Asking.{MayBeMade}
use Rattle.calls.specs.declared.call.CoordinatorCall.{CoordinatorCall}
use Rattle.calls.specs.declared.call.CoordinatorCall.TheVariants as calls
use Rattle.calls.specs.declared.reply.CoordinatorReply.TheVariants as told
use Rattle.answer_flow.specs.Watching.{AsksFor, BatchGives, FlushGives, GivesTo, HeadsGive, heartbeat}
use Rattle.answer_flow.specs.WatchViews.{WatchStep, WatchView, at_rest, batch, ended, flush, heads, listed, refused, seen_of, waiting, with_heads}
use Rattle.stores.specs.Flows.{to_watch, watching}
use Rattle.stores.specs.Held.{AreHeldHeads}
use Rattle.stores.specs.Replies.{listed as listed_answer}
use Rattle.stores.specs.Stores.{NamesHorizon}
use Rattle.turns.specs.Runs.{Turns}
use Rattle.turns.proofs.AnswerTurns.{watches_end}
use Rattle.turns.proofs.CoordinatorCalls.{batch_answers, batch_has_cause, horizon_is}
use Rattle.turns.proofs.SeesOn.{heads_on}
use Rattle.flow_turns.proofs.Asked.{BatchComes, batch_told}
use Rattle.flow_turns.proofs.Turned.{ran_ending}
use Rattle.flow_turns.proofs.Leads.{ComesRight, IsFlow, RefusedQuietly, fails_to, goes_to, held_now, refuses_to, wants_collected, wants_future}
use Rattle.flow_turns.specs.AnswerTurns.{WatchesTurn, watch_in_slot, watch_tells}

module _ {D : Type 0} (state : D → State) (honest : D → Type 0) (moment : D → ℕ) (left_since : D → ℕ → List ℕ → Type 0)
    (counts_now : (d : D) (t : ℕ) (c : List ℕ) → honest d → t ≤ moment d → left (state d) c → left_since d t c) (only_now : (d : D) (c : List ℕ) → honest d → left_since d (moment d) c → left (state d) c)
    (store shards : ℕ) (old new : Store D) (slot cursor limit : ℕ) (names : List (List ℕ)) (few : limit ≤ max_watched) (h : HeadsHeld) where
  abbrev asked : Asked
  asked = to_watch cursor limit names

  -- in a slot after its turn, or out of it, it tells this, and the promise of a step is kept
  abbrev Leads : WatchView → Type 0
  Leads a = SlotTurns slot (shown_answer asked (watching h)) (watch_in_slot asked a a.ended) old new → TurnRuns state honest moment left_since store shards old slot (watch_tells a.ended ∷ []) new

  calls_coordinator : Calls shards asked (watching h) coordinator
  calls_coordinator t same = cc

  abbrev Is : Moment → Running → Type 0
  Is = IsFlow state honest moment left_since store shards old new slot asked refl (watching h)

  held : (now : Moment) → StandsOver state honest store shards old now → (r : Running) → Is now r → AreHeldHeads shards (stops state honest store shards old.devices) now r h
  held now standing r flow = held_now state honest moment left_since store shards old new slot asked refl (watching h) now standing r flow

  -- it goes on with what is right
  goes : (k : HeadsHeld) (call : WatchStep) → ComesRight state honest moment left_since store shards old new slot asked refl (watching h) (watching k) → Leads (at_rest call k)
  goes k call right = goes_to state honest moment left_since store shards old new slot asked refl (watching h) (watching k) right

  refuses : (e : Refusal) → RefusedQuietly state honest moment left_since store shards old new slot asked refl (watching h) e → Leads (ended (refused e))
  refuses e quietly = refuses_to state honest moment left_since store shards old new slot asked refl (watching h) e quietly

  fails : (e : Refusal) → ((now : Moment) (standing : StandsOver state honest store shards old now) → FailsQuietly state honest moment left_since store shards old new now standing coordinator e) → Leads (ended (refused e))
  fails e failing = fails_to state honest moment left_since store shards old new slot asked refl (watching h) coordinator e calls_coordinator failing

  -- it asks for heads: they tell that its cursor is kept, or not yet, or that it is refused
  by_heads : (was is : NodeView D) (r : Result HeadsValue Refusal) (after : WatchView) → IsCalled state honest moment left_since store shards coordinator was is old new
      → Answered state honest moment left_since was (of_coordinator calls.Heads) (from_coordinator (told.Heads r)) is → HeadsGive cursor r after → Leads after
  by_heads was is (Err e) after c so gives = subst Leads (sym gives) (fails e (λ now standing. heads_told state honest moment left_since counts_now only_now store shards old new now standing was is (Err e) c so))
  by_heads was is (Ok v) after c so gives = ⊎_elim
      (λ found. subst Leads (sym found.1) with_them)
      (λ rest. ⊎_elim
      (λ later. subst Leads (sym later.1) without)
      (λ (e, why, is_so). subst Leads (sym is_so) (⊎_elim (λ future. wants_future state honest moment left_since store shards old new slot asked refl (watching h) counts_now only_now was is v c so (why.future future) e future) (λ collected. wants_collected state honest moment left_since store shards old new slot asked refl (watching h) counts_now only_now was is v c so (why.collected collected).1 e collected) why.one))
      rest)
      gives
    where
      with_them : Leads (at_rest batch (with_heads v))
      with_them = goes (with_heads v) batch (λ now standing r flow.
          let it = heads_told state honest moment left_since counts_now only_now store shards old new now standing was is (Ok v) c so in (
            now.nodes,
            now.machine,
            it.0,
            λ y k. record {
              heads = λ x same. subst (AreRightHeads (with_call r y r.met now.machine) now.machine) (sym it.1.2 ∙ same_Some v x same)
                  (right_heads store shards (stops state honest store shards old.devices) now it.1.0 standing.stands it.1.1 r y flow.runs);
              batch = λ b none. absurd (let bad : None ≡ Some b = none in cc);
            },
          ))

      without : Leads (at_rest flush no_heads)
      without = goes no_heads flush (λ now standing r flow.
          let it = heads_told state honest moment left_since counts_now only_now store shards old new now standing was is (Ok v) c so in
          (now.nodes, now.machine, it.0, λ q k. record { heads = λ x none. absurd (let bad : None ≡ Some x = none in cc); batch = λ b none. absurd (let bad : None ≡ Some b = none in cc) }))

  -- after a flush it asks again
  by_flush : (was is : NodeView D) (r : Result (Unit {0}) Refusal) (after : WatchView) → IsCalled state honest moment left_since store shards coordinator was is old new
      → Answered state honest moment left_since was (of_coordinator calls.Flush) (from_coordinator (told.Flush r)) is → FlushGives r after → Leads after
  by_flush was is (Err e) after c so gives = subst Leads (sym gives) (fails e (λ now standing. coordinator_flushed state honest moment left_since counts_now only_now store shards old new now standing was is (Err e) c so))
  by_flush was is (Ok x) after c so gives = subst Leads (sym gives) (goes no_heads heads (λ now standing r flow.
      let it = coordinator_flushed state honest moment left_since counts_now only_now store shards old new now standing was is (Ok x) c so in
      (it.0, _, it.2, λ q k. record { heads = λ y none. absurd (let bad : None ≡ Some y = none in cc); batch = λ b none. absurd (let bad : None ≡ Some b = none in cc) })))

  -- it lists the decisions after its cursor
  by_batch : (v : HeadsValue) → h ≡ with_heads v → cursor ≤ heartbeat cursor limit v → (was is : NodeView D) (r : Result BatchValue Refusal) (after : WatchView) → IsCalled state honest moment left_since store shards coordinator was is old new
      → Answered state honest moment left_since was (of_coordinator (calls.Batch cursor (heartbeat cursor limit v))) (from_coordinator (told.Batch r)) is → BatchGives cursor limit names (waiting batch h) r after → Leads after
  by_batch v has low was is (Ok b) after c so gives = ⊎_elim
      (λ lists. subst Leads (sym (lists v has)) lists_all)
      (λ none. subst Leads (sym none) (refuses NoMemory (λ now standing r flow. (now.nodes, now.machine, (told_it now standing).0, (inl (subst TakesMemory (sym flow.asked_is) tt), λ same. cc)))))
      gives
    where
      told_it : (now : Moment) (standing : StandsOver state honest store shards old now) → BatchComes state honest moment left_since counts_now only_now store shards old new now standing cursor (heartbeat cursor limit v) (Ok b)
      told_it now standing = batch_told state honest moment left_since counts_now only_now store shards old new now standing was is cursor (heartbeat cursor limit v) (Ok b) c so

      lists_all : Leads (ended (listed (heartbeat cursor limit v) (events_from (b.from + 1) names b.writes)))
      lists_all turns number now standing =
          let f = shown_answer asked (watching h) in
          let flow = the_flow state honest moment left_since store shards old new now standing number slot f None turns in
          let r = flow.0 in
          let is_flow : Is now r = record { runs = runs state honest moment left_since store shards old new now standing number slot f None turns r flow.1; asked_is = sym (flow.2.asked asked refl); holds_are = sym flow.2.holds } in
          let it = told_it now standing in
          let right = batch_answers store shards (stops state honest store shards old.devices) D now it.1.0 cursor (heartbeat cursor limit v) b standing.stands it.1.1 low it.1.2 in
          let held_heads = (held now standing r is_flow).heads v (ap (λ (x : HeadsHeld). x.heads) has) in
          let on = heads_on r r.holds now.machine now.machine v held_heads in
          let top = horizon_is store shards (stops state honest store shards old.devices) now it.1.0 standing.stands it.1.1 in
          let above = it.1.2.above in
          let from_is : b.from ≡ cursor = it.1.2.from_is in
          let size : length b.writes ≡ heartbeat cursor limit v - cursor = omega (arith, right.1, few) in
          let law = watches_end store shards (stops state honest store shards old.devices) (stops state honest store shards new.devices) now now.nodes now.machine r cursor limit names v b it.0.0 is_flow.runs is_flow.asked_is on right.0
          (let low_heads = held_heads.horizon in omega (arith, low_heads, top, above)) (omega (arith, low)) from_is size in
          let taken = subst (λ (n : ℕ). Turns shards (NamesHorizon state honest store shards old now) now r (answered (listed_answer (heartbeat cursor limit v) (events_from (n + 1) names b.writes)) ∷ []) (ending now now.nodes now.machine r [])) (sym from_is) law.1 in
          ran_ending state honest moment left_since store shards old new now standing number slot f None turns r flow.1 now.nodes now.machine [] _ it.0.1 refl law.0 taken
  by_batch v has low was is (Err e) after c so gives = subst Leads (sym gives) (refuses e (λ now standing r flow. ⊎_elim
      (λ fails. (fails.0, now.machine, fails.1, fails.2 r (ending now fails.0 now.machine r []) refl (calls_on shards r asked (watching h) coordinator flow.asked_is flow.holds_are calls_coordinator)))
      (λ told_so.
      let law = batch_has_cause store shards (stops state honest store shards old.devices) D now now told_so.1.0 r cursor (heartbeat cursor limit v) standing.stands told_so.1.1 in
      let held_heads = (held now standing r flow).heads v (ap (λ (x : HeadsHeld). x.heads) has) in (
        now.nodes,
        now.machine,
        told_so.0,
        ⊎_elim
            (λ future. absurd (law.0 (let kept = held_heads.kept in omega (arith, kept)) future.1))
            (λ rest. ⊎_elim
            (λ collected. subst (λ (f : Refusal). HasItsCause shards told_so.0.0.node now (ending now now.nodes now.machine r []) r f × (f ≢ Unsure)) (sym collected.0) (inl (law.1 limit names flow.asked_is collected.1), not_collected))
            (λ none. subst (λ (f : Refusal). HasItsCause shards told_so.0.0.node now (ending now now.nodes now.machine r []) r f × (f ≢ Unsure)) (sym none) (inl (subst TakesMemory (sym flow.asked_is) tt), not_memory))
            rest)
            told_so.1.2,
      ))
      (batch_told state honest moment left_since counts_now only_now store shards old new now standing was is cursor (heartbeat cursor limit v) (Err e) c so)))
    where
      not_collected : Collected ≢ Unsure
      not_collected same = cc

      not_memory : NoMemory ≢ Unsure
      not_memory same = cc

  -- the reply, by the call that waits for it
  heads_replied : (was is : NodeView D) (reply : Reply) (after : WatchView) → IsCalled state honest moment left_since store shards coordinator was is old new
      → Answered state honest moment left_since was (of_coordinator calls.Heads) reply is → GivesTo cursor limit names (waiting heads h) heads reply after → Leads after
  heads_replied was is (from_coordinator (told.Heads r)) after c so gives = by_heads was is r after c so gives
  heads_replied was is reply after c so gives = absurd gives

  flush_replied : (was is : NodeView D) (reply : Reply) (after : WatchView) → IsCalled state honest moment left_since store shards coordinator was is old new
      → Answered state honest moment left_since was (of_coordinator calls.Flush) reply is → GivesTo cursor limit names (waiting flush h) flush reply after → Leads after
  flush_replied was is (from_coordinator (told.Flush r)) after c so gives = by_flush was is r after c so gives
  flush_replied was is reply after c so gives = absurd gives

  batch_replied : (v : HeadsValue) → h ≡ with_heads v → cursor ≤ heartbeat cursor limit v → (was is : NodeView D) (reply : Reply) (after : WatchView) → IsCalled state honest moment left_since store shards coordinator was is old new
      → Answered state honest moment left_since was (of_coordinator (calls.Batch cursor (heartbeat cursor limit v))) reply is → GivesTo cursor limit names (waiting batch h) batch reply after → Leads after
  batch_replied v has low was is (from_coordinator (told.Batch r)) after c so gives = by_batch v has low was is r after c so gives
  batch_replied v has low was is reply after c so gives = absurd gives

  -- whichever call it makes
  by_call : (next : WatchStep) (call : CoordinatorCall) (reply : Reply) (after : WatchView) (was is : NodeView D) → AsksFor cursor limit (at_rest next h) (of_coordinator call) → ((n : ℕ) → MayBeMade n (of_coordinator call))
      → IsCalled state honest moment left_since store shards coordinator was is old new → Answered state honest moment left_since was (of_coordinator call) reply is → GivesTo cursor limit names (waiting next h) next reply after → Leads after
  by_call next calls.Heads reply after was is asks owed c so gives = heads_replied was is reply after c so (subst (λ (x : WatchStep). GivesTo cursor limit names (waiting x h) x reply after) asks gives)
  by_call next calls.Flush reply after was is asks owed c so gives = flush_replied was is reply after c so (subst (λ (x : WatchStep). GivesTo cursor limit names (waiting x h) x reply after) asks gives)
  by_call next (calls.Batch from to) reply after was is (asks, (v, has, from_is, to_is)) owed c so gives =
      batch_replied v has (subst (λ (n : ℕ). n ≤ heartbeat cursor limit v) from_is (subst (λ (n : ℕ). from ≤ n) to_is (owed shards))) was is reply after c
      (subst (λ (n : ℕ). Answered state honest moment left_since was (of_coordinator (calls.Batch n (heartbeat cursor limit v))) reply is) from_is (subst (λ (n : ℕ). Answered state honest moment left_since was (of_coordinator (calls.Batch from n)) reply is) to_is so))
      (subst (λ (x : WatchStep). GivesTo cursor limit names (waiting x h) x reply after) asks gives)
  by_call next call reply after was is asks owed c so gives = absurd asks

  from_view : (v out : WatchView) → v.holds ≡ h → (call : NodeCall) (reply : Reply) (after : WatchView) (was is : NodeView D) → AsksFor cursor limit v call → out ≡ waiting v.next v.holds → ((n : ℕ) → MayBeMade n call)
      → IsCalled state honest moment left_since store shards (called call) was is old new → Answered state honest moment left_since was call reply is
      → MatchOption out.awaited ⊥ (λ awaited. GivesTo cursor limit names out awaited reply after) → Leads after
  from_view v out own (of_coordinator call) reply after was is asks out_is owed c so gives =
      by_call v.next call reply after was is (asks_of call asks) owed c so
      (subst (λ (k : HeadsHeld). GivesTo cursor limit names (waiting v.next k) v.next reply after) own (subst (λ (o : WatchView). MatchOption o.awaited ⊥ (λ awaited. GivesTo cursor limit names o awaited reply after)) out_is gives))
    where
      asks_of : (x : CoordinatorCall) → AsksFor cursor limit v (of_coordinator x) → AsksFor cursor limit (at_rest v.next h) (of_coordinator x)
      asks_of calls.Heads a = a
      asks_of calls.Flush a = a
      asks_of (calls.Batch from to) (a, (k, has, from_is, to_is)) = (a, (k, sym own ∙ has, from_is, to_is))
      asks_of x a = absurd a
  from_view v out own (of_shard s call) reply after was is asks out_is owed c so gives = absurd asks

pub watches_turn : {D : Type 0} (state : D → State) (honest : D → Type 0) (moment : D → ℕ) (left_since : D → ℕ → List ℕ → Type 0)
    (counts_now : (d : D) (t : ℕ) (c : List ℕ) → honest d → t ≤ moment d → left (state d) c → left_since d t c) (only_now : (d : D) (c : List ℕ) → honest d → left_since d (moment d) c → left (state d) c)
    (store shards : ℕ) → WatchesTurn state honest moment left_since store shards
watches_turn state honest moment left_since counts_now only_now store shards old new slot v after t =
    from_view state honest moment left_since counts_now only_now store shards old new slot v.cursor v.limit v.namespaces t.asked.2 v.holds (seen_of v) t.out refl t.call t.reply after t.was t.is t.asks.asks t.asks.out t.asks.owed t.called_is t.answers t.gives t.turns
