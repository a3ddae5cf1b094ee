-- A check takes its turn.
use Rattle.std.proofs.Common.{◌≡◌, ◌≢◌, ⊎_elim, inl, ◌≤◌, ◌<◌, ◌++◌, ℕ, zero, true, false, List, [], ◌∷◌, length, Option, Some, None, Result, Ok, Err, MatchOption, Contains, refl, sym, ◌∙◌, ap, slice_get, subst, arith}
use Rattle.std.proofs.lemmas.Bool.{cases_lt}
use Rattle.std.proofs.lemmas.List.Elements.{All-nil}
use Rattle.std.proofs.lemmas.Option.{same_Some}
use Rattle.tuples.specs.Limits.{max_walked}
use Rattle.flow_turns.proofs.AnswerWords.{Answered, AreRightHeads, Asked, BatchValue, Behind, Calls, CallsShard, CatchUpComes, FitsItsTypes, Freshness, HeadsValue, IfHeld, IsCalled, IsCatchingUp, IsQuietlyMade, IsRightBatch, LetsLearn, Machine, Moment, Next, NoMemory, NodeCall, NodeName, NodeView, Nodes, Progress, ReadReply, Record, Refusal, Reply, Rows, Running, SlotTurns, StandsOver, State, Store, There, Tuple, TurnRuns, Unsure, all_kept, batch_of, behind_call, called, calls_on, contained_from, coordinator, coordinator_flushed, ending, from_coordinator, from_shard, heads_told, is_refused, knows, left, memory, of_coordinator, of_shard, places_are_found, right_heads, shard, shown_answer, some_coordinator, still_of, stops, with_call}
use Rattle.refusal.specs.declared.refusal.Refusal.TheVariants.{Full}
use Rattle.tuples.specs.declared.object.Userset.{Userset}
use Rattle.tuples.specs.declared.user.User.{User}
use Rattle.tuples.specs.Checking.{holding}
use Rattle.tuples.specs.Log.{is_at}
use Rattle.tuples.specs.Parts.{shard_of}
use Rattle.tuples.specs.Walking.{IsCheckSelection}
use Rattle.decisions.specs.Flows.{CheckHolds}
use Rattle.decisions.specs.Walks.{Walks}
use Rattle.calls.specs.declared.call.CoordinatorCall.TheVariants as calls
use Rattle.calls.specs.declared.call.ShardCall.TheVariants as shard_calls
use Rattle.calls.specs.declared.reply.CoordinatorReply.TheVariants as told
use Rattle.calls.specs.declared.reply.ShardReply.TheVariants as told_by
use Rattle.answer_flow.specs.Finding as finding
use Rattle.answer_flow.specs.Checking.{AsksFor, CatchUpGives, CatchesUp, Continues, FlushGives, GivesTo, HeadsGive, ProgressGives, ReadGives, RowsGive}
use Rattle.answer_flow.specs.CheckViews.{CheckStep, CheckView, at_rest, catch_up, catch_up_call, checked, ended, flush, flush_call, heads, heads_call, read, read_call, refused, seen_of, waiting}
use Rattle.stores.specs.Causes.{IsCause}
use Rattle.stores.specs.Flows.{checking, place_of, to_check}
use Rattle.stores.specs.Held.{IsRightCheck}
use Rattle.stores.specs.Replies.{checked as checked_answer}
use Rattle.stores.proofs.CheckWalk.{check_replies_select, checks_begin, checks_go_on, checks_say_no, checks_say_yes, full_checks_have_cause}
use Rattle.turns.proofs.ShardCheckSeam.{refused_checks_have_cause}
use Rattle.flow_turns.proofs.ReadTold.{read_for_check_told}
use Rattle.flow_turns.specs.CheckTurns.{ChecksTurn, check_in_slot, check_tells}
use Rattle.laws.proofs.TupleLists.{has_or_not}
use Rattle.flow_turns.proofs.Leads.{ComesRight, IsFlow, Quietly, RefusedQuietly, answers_to, fails_to, goes_to, held_now, lacks_memory, refuses_to, wants_collected, wants_future}
use Rattle.flow_turns.proofs.Places.{asks_above, asks_below, finds_place}
use Rattle.flow_turns.proofs.Ways.{came, moved}

module _ {D : Type 0} (state : D → State) (honest : D → Type 0) (moment : D → ℕ) (left_since : D → ℕ → List ℕ → Type 0)
    (counts_now : (d : D) (t : ℕ) (c : List ℕ) → honest d → t ≤ moment d → left (state d) c → left_since d t c) (only_now : (d : D) (c : List ℕ) → honest d → left_since d (moment d) c → left (state d) c)
    (store shards : ℕ) (old new : Store D) (slot : ℕ) (fresh : Freshness) (x : Userset) (u : User) (h : CheckHolds) where
  abbrev asked : Asked
  asked = to_check fresh x u

  -- in a slot after its turn, or out of it, it tells this, and the promise of a step is kept
  abbrev Leads : CheckView → Type 0
  Leads a = SlotTurns slot (shown_answer asked (checking h)) (check_in_slot asked a a.ended) old new → TurnRuns state honest moment left_since store shards old slot (check_tells a.ended ∷ []) new

  abbrev Is : Moment → Running → Type 0
  Is = IsFlow state honest moment left_since store shards old new slot asked refl (checking h)

  abbrev Here : ((now : Moment) → StandsOver state honest store shards old now → Running → Nodes → Machine → Type 0) → Type 0
  Here = Quietly state honest moment left_since store shards old new slot asked refl (checking h)

  abbrev Right : CheckHolds → Type 0
  Right k = ComesRight state honest moment left_since store shards old new slot asked refl (checking h) (checking k)

  -- the call was quiet
  abbrev Quiet : Type 0
  Quiet = Here (λ now standing r next m. Unit {0})

  goes : (k : CheckHolds) (step : CheckStep) → Right k → Leads (at_rest step k)
  goes k step right = goes_to state honest moment left_since store shards old new slot asked refl (checking h) (checking k) right

  refuses : (e : Refusal) → RefusedQuietly state honest moment left_since store shards old new slot asked refl (checking h) e → Leads (ended (refused e))
  refuses e quietly = refuses_to state honest moment left_since store shards old new slot asked refl (checking h) e quietly

  lacks : Quiet → Leads (ended (refused NoMemory))
  lacks quiet = lacks_memory state honest moment left_since store shards old new slot asked refl (checking h) tt quiet

  held : (now : Moment) → StandsOver state honest store shards old now → (r : Running) → Is now r → IsRightCheck shards (stops state honest store shards old.devices) now r fresh x u h
  held now standing r flow = held_now state honest moment left_since store shards old new slot asked refl (checking h) now standing r flow

  calls_coordinator : Calls shards asked (checking h) coordinator
  calls_coordinator t same = cc

  -- with other decisions on their way
  re_batched : (left : NodeName → List Record → Type 0) (now : Moment) (r : Running) (batch : Option BatchValue) → IsRightCheck shards left now r fresh x u h → IfHeld batch (IsRightBatch now.machine)
      → IsRightCheck shards left now r fresh x u (record h { batch = batch })
  re_batched left now r batch k right =
      record { heads = k.heads; place = k.place; nothing = k.nothing; walk = k.walk; batch = right }

  no_batch : (m : Machine) → IfHeld None (IsRightBatch m)
  no_batch m b none = absurd (let bad : None ≡ Some b = none in cc)

  -- as many were walked as may be, and one still waits
  abbrev FullHasCause : CheckHolds → Type 0
  FullHasCause k = max_walked ≤ length k.walked → (y : Userset) → Contains k.waiting y → (now : Moment) (standing : StandsOver state honest store shards old now) (r : Running) → Is now r → (n : NodeName) (ran : Moment) → IsCause shards n now ran r Full

  -- it goes on to the first waiting userset, says no if there is none, or is refused
  continues : (place : ℕ) (k : CheckHolds) (after : CheckView) → k.place ≡ Some place → Right k → FullHasCause k → Continues place k after → Leads after
  continues place k after at right full gives = by_waiting k.waiting refl
    where
      by_waiting : (ws : List Userset) → k.waiting ≡ ws → Leads after
      by_waiting [] is = subst Leads (sym (gives.no is)) (answers_to state honest moment left_since store shards old new slot asked refl (checking h) (checked_answer place false) (λ P. All-nil P)
          (λ now standing r flow.
          let it = right now standing r flow in (
            it.0,
            it.1,
            it.2,
            λ was_right. checks_say_no store shards (stops state honest store shards new.devices) (behind_call now it.0 it.1) (with_call r r.holds r.met it.1) fresh x u k place (it.3 r.holds was_right) at is,
          )))
      by_waiting (y ∷ rest) is = ⊎_elim
          (λ (lt : length k.walked < max_walked). subst Leads (sym (gives.more some lt)) (goes k catch_up right))
          (λ (le : max_walked ≤ length k.walked). subst Leads (sym (gives.full some le)) (refuses Full (λ now standing r flow.
          let it = right now standing r flow in
          (it.0, it.1, it.2, (inl (full le y (subst (λ (l : List Userset). Contains l y) (sym is) (contained_from (y ∷ rest) zero y refl)) now standing r flow it.2.0.node (ending now it.0 it.1 r [])), not_unsure)))))
          (cases_lt (length k.walked) max_walked)
        where
          some : k.waiting ≢ []
          some none = let bad : y ∷ rest ≡ [] = sym is ∙ none in cc

          not_unsure : Full ≢ Unsure
          not_unsure same = cc

  -- it asks for heads: they tell its place, or that this is not kept yet, or that it is refused
  by_heads : h.place ≡ None → (was is : NodeView D) (r : Result HeadsValue Refusal) (after : CheckView) → IsCalled state honest moment left_since store shards coordinator was is old new
      → Answered state honest moment left_since was (of_coordinator calls.Heads) (from_coordinator (told.Heads r)) is → HeadsGive fresh (waiting heads heads_call h) r after → Leads after
  by_heads nowhere was is (Err e) after c so gives = subst Leads (sym gives) (fails_to state honest moment left_since store shards old new slot asked refl (checking h) coordinator e calls_coordinator
      (λ now standing. heads_told state honest moment left_since counts_now only_now store shards old new now standing was is (Err e) c so))
  by_heads nowhere was is (Ok v) after c so gives = ⊎_elim
      (λ (place, found, goes_on). continues place (record h { place = Some place }) after refl (begins place found) none_walked goes_on)
      (λ rest. ⊎_elim
      (λ later. subst Leads (sym later.1) (goes h flush (λ now standing r flow.
      let it = heads_told state honest moment left_since counts_now only_now store shards old new now standing was is (Ok v) c so in
      (now.nodes, now.machine, it.0, λ q k. k))))
      (λ (e, why, is_so). subst Leads (sym is_so) (⊎_elim
      (λ future. wants_future state honest moment left_since store shards old new slot asked refl (checking h) counts_now only_now was is v c so (asks_above fresh v (why.future future)) e future)
      (λ collected. wants_collected state honest moment left_since store shards old new slot asked refl (checking h) counts_now only_now was is v c so (asks_below fresh v (why.collected collected)) e collected)
      why.one))
      rest)
      gives
    where
      begins : (place : ℕ) → finding.FindsPlace fresh v place → Right (record h { place = Some place })
      begins place found now standing r flow =
          let it = heads_told state honest moment left_since counts_now only_now store shards old new now standing was is (Ok v) c so in (
            now.nodes,
            now.machine,
            it.0,
            λ q k.
                let later = with_call r q r.met now.machine in
                let right = subst (AreRightHeads later now.machine) (sym it.1.2) (right_heads store shards (stops state honest store shards old.devices) now it.1.0 standing.stands it.1.1 r q flow.runs) in
                checks_begin store shards (stops state honest store shards new.devices) (behind_call now now.nodes now.machine) later fresh x u h place k nowhere
                (places_are_found (behind_call now now.nodes now.machine) later fresh v place right (finds_place fresh v place found)),
          )

      none_walked : FullHasCause h
      none_walked many y waits now standing r flow n ran = absurd (let empty = (held now standing r flow).nothing nowhere in omega (arith, many, ap (λ (l : List Userset). length l) empty.0))

  -- after a flush it asks again
  by_flush : (was is : NodeView D) (r : Result (Unit {0}) Refusal) (after : CheckView) → IsCalled state honest moment left_since store shards coordinator was is old new
      → Answered state honest moment left_since was (of_coordinator calls.Flush) (from_coordinator (told.Flush r)) is → FlushGives (waiting flush flush_call h) r after → Leads after
  by_flush was is (Err e) after c so gives = subst Leads (sym gives) (fails_to state honest moment left_since store shards old new slot asked refl (checking h) coordinator e calls_coordinator
      (λ now standing. coordinator_flushed state honest moment left_since counts_now only_now store shards old new now standing was is (Err e) c so))
  by_flush was is (Ok done) after c so gives = subst Leads (sym gives) (goes h heads (λ now standing r flow.
      let it = coordinator_flushed state honest moment left_since counts_now only_now store shards old new now standing was is (Ok done) c so in
      (it.0, all_kept now.machine (it.1.durable ++ it.1.staged), it.2, λ q k. k)))

  -- it brings the shard of the first waiting userset up to its place
  module _ (call : NodeCall) (out : CheckView) (reply : Reply) (after : CheckView) (was is : NodeView D) (v : CheckView) (own : v.holds ≡ h) (asks : CatchesUp shards v call out)
      (gives : MatchOption out.awaited ⊥ (λ awaited. GivesTo fresh u out awaited reply after)) (fits : FitsItsTypes call) (c : IsCalled state honest moment left_since store shards (called call) was is old new)
      (so : Answered state honest moment left_since was call reply is) where
    it : CatchUpGives (waiting catch_up (catch_up_call asks.out.awaited) (record h { batch = asks.out.held.batch })) asks.out.awaited reply after
    it = subst (λ (k : CheckHolds). CatchUpGives (waiting catch_up (catch_up_call asks.out.awaited) (record k { batch = asks.out.held.batch })) asks.out.awaited reply after) own
        (subst (λ (o : CheckView). MatchOption o.awaited ⊥ (λ awaited. GivesTo fresh u o awaited reply after)) asks.waits gives)

    at_place : h.place ≡ Some asks.way.to
    at_place = sym (ap (λ (k : CheckHolds). k.place) own) ∙ asks.to

    has_batch : asks.way.batch ≡ h.batch
    has_batch = asks.batch ∙ ap (λ (k : CheckHolds). k.batch) own

    on_shard : CallsShard shards asked (checking h) asks.way.shard
    on_shard = (
      λ none. let bad : Some asks.way.to ≡ None = sym at_place ∙ none in cc,
      (asks.first, subst (λ (k : CheckHolds). slice_get k.waiting 0 ≡ Some asks.first) own asks.is_first, asks.shard),
    )

    on : (now : Moment) (standing : StandsOver state honest store shards old now) (r : Running) → Is now r → IsCatchingUp state honest moment left_since counts_now only_now store shards old new now standing r asks.way
    on now standing r flow =
        let k = held now standing r flow in record {
          runs = flow.runs;
          calls_coordinator = calls_on shards r asked (checking h) coordinator flow.asked_is flow.holds_are calls_coordinator;
          calls_shard = λ there. calls_on shards r asked (checking h) (shard asks.way.shard) flow.asked_is flow.holds_are (there, on_shard);
          lets = subst LetsLearn (sym flow.asked_is) tt;
          kept = (k.place asks.way.to at_place).kept;
          held = ap batch_of flow.holds_are ∙ sym has_batch;
          right = subst (λ (b : Option BatchValue). IfHeld b (IsRightBatch now.machine)) (sym has_batch) k.batch;
        }

    abbrev Comes : Progress → Type 0
    Comes progress = (now : Moment) (standing : StandsOver state honest store shards old now) (r : Running) → Is now r
        → CatchUpComes state honest moment left_since counts_now only_now store shards old new now standing r asks.way.shard asks.way.to (moved asks.way.shard progress)

    comes : Comes it.progress
    comes now standing r flow = came state honest moment left_since counts_now only_now store shards old new asks.way call asks.out it.call asks.asks it.is_awaited (same_Some it.call.held.to asks.way.to (sym it.to ∙ at_place)) it.holds
        reply it.progress was is fits c so it.gives now standing r (on now standing r flow)

    by_progress : (progress : Progress) → Comes progress → ProgressGives (waiting catch_up (catch_up_call asks.out.awaited) (record h { batch = asks.out.held.batch })) progress after → Leads after
    by_progress (Next caught) came_so then = subst Leads (sym then) (goes (record h { batch = caught.batch }) catch_up (λ now standing r flow.
        let at = came_so now standing r flow in
        (at.0, now.machine, at.1, λ q k. re_batched (stops state honest store shards new.devices) (behind_call now at.0 now.machine) (with_call r q r.met now.machine) caught.batch k at.2)))
    by_progress There came_so then = ⊎_elim
        (λ reads. subst Leads (sym reads) (goes (record h { batch = None }) read (λ now standing r flow.
        let at = came_so now standing r flow in
        (at.0, now.machine, at.1, λ q k. re_batched (stops state honest store shards new.devices) (behind_call now at.0 now.machine) (with_call r q r.met now.machine) None k (no_batch now.machine)))))
        (λ none. subst Leads (sym none) (lacks (λ now standing r flow. let at = came_so now standing r flow in (at.0, now.machine, at.1, tt))))
        then
    by_progress (is_refused e) came_so then = subst Leads (sym then) (refuses e (λ now standing r flow.
        let at = came_so now standing r flow in
        (at.0, now.machine, at.1, at.2 (ending now at.0 now.machine r []) refl)))

    by_way : Leads after
    by_way = by_progress it.progress comes it.then_gives

  -- it reads the first waiting userset, at its shard
  module _ (y : Userset) (place : ℕ) (at : h.place ≡ Some place) (first : slice_get h.waiting 0 ≡ Some y) (was is : NodeView D)
      (c : IsCalled state honest moment left_since store shards (shard (shard_of shards y.object)) was is old new) where
    abbrev s : ℕ
    s = shard_of shards y.object

    waits : Contains h.waiting y
    waits = contained_from h.waiting 0 y first

    -- the shard selected these of the whole store's tuples
    abbrev Selects : List Tuple → Type 0
    Selects rows = (now : Moment) (standing : StandsOver state honest store shards old now) (r : Running) → Is now r
        → IsQuietlyMade state honest moment left_since store shards old new now standing now.nodes now.machine × IsCheckSelection (is_at now.machine.log place) y u rows

    says_yes : (rows : List Tuple) → Selects rows → Contains rows (holding y u) → Leads (ended (checked place true))
    says_yes rows selects has = answers_to state honest moment left_since store shards old new slot asked refl (checking h) (checked_answer place true) (λ P. All-nil P)
        (λ now standing r flow.
        let it = selects now standing r flow in (
          now.nodes,
          now.machine,
          it.0,
          λ k. checks_say_yes store shards (stops state honest store shards new.devices) (behind_call now now.nodes now.machine) (with_call r r.holds r.met now.machine) fresh x u h place y rows k at waits it.1 has,
        ))

    goes_further : (rows : List Tuple) (after : CheckView) → Selects rows → (Contains rows (holding y u) → ⊥) → (next : CheckHolds) → Walks y rows h next → Continues place next after → Leads after
    goes_further rows after selects lacks_it next walks gives = continues place next after at_next
        (λ now standing r flow.
        let it = selects now standing r flow in (
          now.nodes,
          now.machine,
          it.0,
          λ q k. checks_go_on store shards (stops state honest store shards new.devices) (behind_call now now.nodes now.machine) (with_call r q r.met now.machine) fresh x u h next place y rows k at walks it.1 lacks_it,
        ))
        (λ many z has now standing r flow n ran.
        let it = selects now standing r flow in
        full_checks_have_cause store shards (stops state honest store shards old.devices) n now ran r fresh x u next place z flow.asked_is (ap place_of flow.holds_are ∙ at)
        (checks_go_on store shards (stops state honest store shards old.devices) now r fresh x u h next place y rows (held now standing r flow) at walks it.1 lacks_it) at_next many has)
        gives
      where
        at_next : next.place ≡ Some place
        at_next = walks.place ∙ at

    by_rows : (rows : List Tuple) (after : CheckView) → Selects rows → RowsGive u place h y rows after → Leads after
    by_rows rows after selects gives = ⊎_elim
        (λ has. subst Leads (sym (gives.yes has)) (says_yes rows selects has))
        (λ lacks_it. ⊎_elim
        (λ none. subst Leads (sym none) (lacks (λ now standing r flow. let it = selects now standing r flow in (now.nodes, now.machine, it.0, tt))))
        (λ (next, walks, walked, goes_on). goes_further rows after selects lacks_it next walks goes_on)
        (gives.further lacks_it))
        (has_or_not rows (holding y u))

    by_answer : (back_y : Userset) (back_u : User) (r : Result ReadReply Refusal) (after : CheckView) → Answered state honest moment left_since was (of_shard s (shard_calls.ReadForCheck place y u)) (from_shard (told_by.ReadForCheck back_y back_u r)) is
        → ReadGives u (waiting read read_call h) r after → Leads after
    by_answer back_y back_u (Ok (Rows rows)) after so gives = by_rows rows.items after
        (λ now standing r flow.
        let it = read_for_check_told state honest moment left_since counts_now only_now store shards old new now standing s place y back_y u back_u was is (Ok (Rows rows)) c so in
        let k = held now standing r flow in (
          it.0,
          check_replies_select store shards (stops state honest store shards old.devices) now s place y u rows.items standing.stands (some_coordinator state honest store shards old now standing) c.before.there refl (k.place place at).kept
              (record { memory = memory it.1.0; knows = knows store shards (stops state honest store shards old.devices) now it.1.0 s it.1.1; learned = it.1.3.learned; above = it.1.3.above; selected = it.1.3.rows_are }),
        ))
        (gives place y at first)
    by_answer back_y back_u (Ok Behind) after so gives = subst Leads (sym (gives y first)) (goes h catch_up (λ now standing r flow.
        let it = read_for_check_told state honest moment left_since counts_now only_now store shards old new now standing s place y back_y u back_u was is (Ok Behind) c so in
        (now.nodes, now.machine, it.0, λ q k. k)))
    by_answer back_y back_u (Err e) after so gives = subst Leads (sym gives) (refuses e (λ now standing r flow. ⊎_elim
        (λ fails. (
          fails.0,
          now.machine,
          fails.1,
          fails.2 r (ending now fails.0 now.machine r []) refl
              (calls_on shards r asked (checking h) (shard s) flow.asked_is flow.holds_are (c.before.there, (λ none. let bad : Some place ≡ None = sym at ∙ none in cc, (y, first, refl)))),
        ))
        (λ told_so. (
          now.nodes,
          now.machine,
          still_of state honest moment left_since store shards old new now standing (shard s) told_so.0,
          refused_checks_have_cause store shards (stops state honest store shards old.devices) D now (ending now now.nodes now.machine r []) told_so.1.0 s fresh x u place e r h standing.stands told_so.1.1
              (record { running = flow.runs; asked = flow.asked_is; holds = flow.holds_are; at_place = at }) told_so.1.3,
        ))
        (read_for_check_told state honest moment left_since counts_now only_now store shards old new now standing s place y back_y u back_u was is (Err e) c so)))

    replied : (reply : Reply) (after : CheckView) → Answered state honest moment left_since was (of_shard s (shard_calls.ReadForCheck place y u)) reply is
        → GivesTo fresh u (waiting read read_call h) read_call reply after → Leads after
    replied (from_shard (told_by.ReadForCheck back_y back_u r)) after so gives = by_answer back_y back_u r after so gives
    replied reply after so gives = absurd gives

  -- the reply, by the call that waits for it
  heads_replied : h.place ≡ None → (was is : NodeView D) (reply : Reply) (after : CheckView) → IsCalled state honest moment left_since store shards coordinator was is old new
      → Answered state honest moment left_since was (of_coordinator calls.Heads) reply is → GivesTo fresh u (waiting heads heads_call h) heads_call reply after → Leads after
  heads_replied nowhere was is (from_coordinator (told.Heads r)) after c so gives = by_heads nowhere was is r after c so gives
  heads_replied nowhere was is reply after c so gives = absurd gives

  flush_replied : (was is : NodeView D) (reply : Reply) (after : CheckView) → IsCalled state honest moment left_since store shards coordinator was is old new
      → Answered state honest moment left_since was (of_coordinator calls.Flush) reply is → GivesTo fresh u (waiting flush flush_call h) flush_call reply after → Leads after
  flush_replied was is (from_coordinator (told.Flush r)) after c so gives = by_flush was is r after c so gives
  flush_replied was is reply after c so gives = absurd gives

  -- whichever call it makes
  by_step : (step : CheckStep) → (call : NodeCall) (out : CheckView) (reply : Reply) (after : CheckView) (was is : NodeView D) (v : CheckView) → v.holds ≡ h → AsksFor step shards u v call out
      → MatchOption out.awaited ⊥ (λ awaited. GivesTo fresh u out awaited reply after) → FitsItsTypes call → IsCalled state honest moment left_since store shards (called call) was is old new
      → Answered state honest moment left_since was call reply is → Leads after
  by_step heads call out reply after was is v own asks gives fits c so = heads_replied (sym (ap (λ (k : CheckHolds). k.place) own) ∙ asks.0) was is reply after
      (subst (λ (q : NodeCall). IsCalled state honest moment left_since store shards (called q) was is old new) asks.1 c)
      (subst (λ (q : NodeCall). Answered state honest moment left_since was q reply is) asks.1 so)
      (subst (λ (k : CheckHolds). GivesTo fresh u (waiting heads heads_call k) heads_call reply after) own
      (subst (λ (o : CheckView). MatchOption o.awaited ⊥ (λ awaited. GivesTo fresh u o awaited reply after)) asks.2 gives))
  by_step flush call out reply after was is v own asks gives fits c so = flush_replied was is reply after
      (subst (λ (q : NodeCall). IsCalled state honest moment left_since store shards (called q) was is old new) asks.1 c)
      (subst (λ (q : NodeCall). Answered state honest moment left_since was q reply is) asks.1 so)
      (subst (λ (k : CheckHolds). GivesTo fresh u (waiting flush flush_call k) flush_call reply after) own
      (subst (λ (o : CheckView). MatchOption o.awaited ⊥ (λ awaited. GivesTo fresh u o awaited reply after)) asks.2 gives))
  by_step catch_up call out reply after was is v own asks gives fits c so = by_way call out reply after was is v own asks gives fits c so
  by_step read call out reply after was is v own asks gives fits c so =
      replied asks.first asks.place (sym (ap (λ (k : CheckHolds). k.place) own) ∙ asks.at_place) (subst (λ (k : CheckHolds). slice_get k.waiting 0 ≡ Some asks.first) own asks.is_first) was is
      (subst (λ (q : NodeCall). IsCalled state honest moment left_since store shards (called q) was is old new) asks.call_is c) reply after
      (subst (λ (q : NodeCall). Answered state honest moment left_since was q reply is) asks.call_is so)
      (subst (λ (k : CheckHolds). GivesTo fresh u (waiting read read_call k) read_call reply after) own
      (subst (λ (o : CheckView). MatchOption o.awaited ⊥ (λ awaited. GivesTo fresh u o awaited reply after)) asks.waits gives))

pub checks_turn : {D : Type 0} (state : D → State) (honest : D → Type 0) (moment : D → ℕ) (left_since : D → ℕ → List ℕ → Type 0)
    (counts_now : (d : D) (t : ℕ) (c : List ℕ) → honest d → t ≤ moment d → left (state d) c → left_since d t c) (only_now : (d : D) (c : List ℕ) → honest d → left_since d (moment d) c → left (state d) c)
    (store shards : ℕ) → ChecksTurn state honest moment left_since store shards
checks_turn state honest moment left_since counts_now only_now store shards old new slot x v after t =
    by_step state honest moment left_since counts_now only_now store shards old new slot v.fresh x v.user v.holds v.next t.call t.out t.reply after t.was t.is (seen_of v) refl
    (subst (λ (n : ℕ). AsksFor v.next n v.user (seen_of v) t.call t.out) t.of_store t.asks.asks) t.gives t.fits t.called_is t.answers t.turns
