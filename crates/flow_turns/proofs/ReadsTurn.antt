-- A read takes its turn.
use Rattle.std.proofs.Common.{◌≡◌, ⊎_elim, ◌≤◌, ◌<◌, ◌+◌, ◌++◌, ℕ, List, [], ◌∷◌, length, Option, Some, None, Result, Ok, Err, MatchOption, refl, sym, ◌∙◌, ap, slice_get, subst, arith}
use Rattle.std.proofs.lemmas.Bool.{cases_lt}
use Rattle.std.proofs.lemmas.List.Elements.{All-nil}
use Rattle.std.proofs.lemmas.Option.{same_Some}
use Rattle.flow_turns.proofs.AnswerWords.{Answered, AreRightHeads, Asked, BatchValue, Behind, Calls, CallsShard, CatchUpComes, FitsItsTypes, Freshness, GivesTo, HeadsValue, Holds, IfHeld, IsCalled, IsCatchingUp, IsQuietlyMade, IsRightBatch, LetsLearn, Machine, Moment, Next, NoMemory, NodeCall, NodeName, NodeView, Nodes, Progress, ReadReply, ReadView, Record, Refusal, Reply, Rows, Running, SlotTurns, StandsOver, State, Store, There, Tuple, Tupleset, TurnRuns, all_kept, at_rest, batch_of, behind_call, called, calls_on, coordinator, coordinator_flushed, ended, ending, from_coordinator, from_shard, heads, heads_call, heads_told, is_refused, knows, left, memory, of_coordinator, of_shard, places_are_found, read_tells, reading, right_heads, shard, shown_answer, some_coordinator, still_of, stops, waiting, with_call}
use Rattle.tuples.specs.declared.tupleset.Tupleset.TheVariants.{Key, OfObject, OfUser}
use Rattle.tuples.specs.Reads.{AreAscending, IsSelection}
use Rattle.decisions.specs.Flows.{ReadHolds, nothing_read}
use Rattle.decisions.specs.Merging.{IsMerged, NeedsOnly}
use Rattle.calls.specs.Belonging.{IsReplyTo}
use Rattle.calls.specs.declared.call.CoordinatorCall.TheVariants as calls
use Rattle.calls.specs.declared.call.ShardCall.TheVariants as shard_calls
use Rattle.calls.specs.declared.reply.CoordinatorReply.TheVariants as told
use Rattle.calls.specs.declared.reply.ShardReply.TheVariants as told_by
use Rattle.answer_flow.specs.Finding as finding
use Rattle.answer_flow.specs.Reading.{AsksFor, CatchUpGives, CatchesUp, Continues, Finishes, FlushGives, HeadsGive, Merges, ProgressGives, ReadGives, RowsGive}
use Rattle.answer_flow.specs.ReadViews.{ReadStep, catch_up, catch_up_call, flush, flush_call, read, read_call, refused, seen_of, shard_for}
use Rattle.stores.specs.Causes.{Needs}
use Rattle.stores.specs.Flows.{to_read}
use Rattle.stores.specs.Held.{IsRightRead}
use Rattle.stores.specs.ReadingLaws.{IsReading, there_of}
use Rattle.stores.specs.Replies.{selected as selected_answer}
use Rattle.laws.proofs.ReadRows.{one_shard_is_enough}
use Rattle.stores.proofs.ReadAnswer.{all_replies_select, reads_answer, reads_ask_all_of, reads_begin, reads_finish, reads_go_on_all}
use Rattle.turns.proofs.ShardReadSeam.{refused_reads_have_cause}
use Rattle.flow_turns.proofs.Belongs.{belongs_to}
use Rattle.flow_turns.proofs.ReadTold.{read_told}
use Rattle.flow_turns.specs.ReadTurns.{ReadsTurn, read_in_slot}
use Rattle.flow_turns.proofs.Leads.{ComesRight, IsFlow, Quietly, RefusedQuietly, answers_to, fails_to, goes_to, held_now, lacks_memory, refuses_to, wants_collected, wants_future}
use Rattle.flow_turns.proofs.Places.{asks_above, asks_below, finds_place}
use Rattle.flow_turns.proofs.Ways.{came, moved}

-- the shard of a tupleset of one object is the one with all its tuples, and that of a user the next
needs : (shards : ℕ) (q : Tupleset) (below : ℕ) → Needs shards q below (shard_for shards q below)
needs shards (Key t) below = refl
needs shards (OfObject o relation) below = refl
needs shards (OfUser n u relation) below = refl

module _ {D : Type 0} (state : D → State) (honest : D → Type 0) (moment : D → ℕ) (left_since : D → ℕ → List ℕ → Type 0)
    (counts_now : (d : D) (t : ℕ) (c : List ℕ) → honest d → t ≤ moment d → left (state d) c → left_since d t c) (only_now : (d : D) (c : List ℕ) → honest d → left_since d (moment d) c → left (state d) c)
    (store shards : ℕ) (old new : Store D) (slot : ℕ) (fresh : Freshness) (sets : List Tupleset) (h : ReadHolds) where
  abbrev asked : Asked
  asked = to_read fresh sets

  -- in a slot after its turn, or out of it, it tells this, and the promise of a step is kept
  abbrev Leads : ReadView → Type 0
  Leads a = SlotTurns slot (shown_answer asked (reading h)) (read_in_slot asked a a.ended) old new → TurnRuns state honest moment left_since store shards old slot (read_tells a.ended ∷ []) new

  abbrev Is : Moment → Running → Type 0
  Is = IsFlow state honest moment left_since store shards old new slot asked refl (reading h)

  abbrev Here : ((now : Moment) → StandsOver state honest store shards old now → Running → Nodes → Machine → Type 0) → Type 0
  Here = Quietly state honest moment left_since store shards old new slot asked refl (reading h)

  abbrev Right : ReadHolds → Type 0
  Right k = ComesRight state honest moment left_since store shards old new slot asked refl (reading h) (reading k)

  -- the call was quiet
  abbrev Quiet : Type 0
  Quiet = Here (λ now standing r next m. Unit {0})

  goes : (k : ReadHolds) (step : ReadStep) → Right k → Leads (at_rest step k)
  goes k step right = goes_to state honest moment left_since store shards old new slot asked refl (reading h) (reading k) right

  refuses : (e : Refusal) → RefusedQuietly state honest moment left_since store shards old new slot asked refl (reading h) e → Leads (ended (refused e))
  refuses e quietly = refuses_to state honest moment left_since store shards old new slot asked refl (reading h) e quietly

  lacks : Quiet → Leads (ended (refused NoMemory))
  lacks quiet = lacks_memory state honest moment left_since store shards old new slot asked refl (reading h) tt quiet

  held : (now : Moment) → StandsOver state honest store shards old now → (r : Running) → Is now r → IsRightRead shards (stops state honest store shards old.devices) now r fresh sets h
  held now standing r flow = held_now state honest moment left_since store shards old new slot asked refl (reading h) now standing r flow

  calls_coordinator : Calls shards asked (reading h) coordinator
  calls_coordinator t same = cc

  -- with other decisions on their way
  re_batched : (left : NodeName → List Record → Type 0) (now : Moment) (r : Running) (batch : Option BatchValue) → IsRightRead shards left now r fresh sets h → IfHeld batch (IsRightBatch now.machine)
      → IsRightRead shards left now r fresh sets (record h { batch = batch })
  re_batched left now r batch k right = record { heads = k.heads; place = k.place; done = k.done; few = k.few; rows = k.rows; nothing = k.nothing; batch = right }

  no_batch : (m : Machine) → IfHeld None (IsRightBatch m)
  no_batch m b none = absurd (let bad : None ≡ Some b = none in cc)

  -- before it has its place it holds nothing
  nothing_right : (left : NodeName → List Record → Type 0) (now : Moment) (r : Running) → IsRightRead shards left now r fresh sets nothing_read
  nothing_right left now r = record {
    heads = λ x none. absurd (let bad : None ≡ Some x = none in cc);
    place = λ s none. absurd (let bad : None ≡ Some s = none in cc);
    done = λ s i q rows none at_set at_row. absurd (let bad : None ≡ Some s = none in cc);
    few = omega arith;
    rows = λ s q none at. absurd (let bad : None ≡ Some s = none in cc);
    nothing = λ none. (refl, refl, refl);
    batch = no_batch now.machine;
  }

  -- it goes on to its next tupleset, or answers after the last one
  continues : (place : ℕ) (k : ReadHolds) (after : ReadView) → k.place ≡ Some place → Right k → Continues sets place k after → Leads after
  continues place k after at right gives = ⊎_elim
      (λ (lt : length k.done < length sets). ⊎_elim
      (λ goes_on. subst Leads (sym goes_on) (goes k catch_up right))
      (λ none. subst Leads (sym none) (lacks (λ now standing r flow. let it = right now standing r flow in (it.0, it.1, it.2, tt))))
      (gives.more lt))
      (λ (le : length sets ≤ length k.done). subst Leads (sym (gives.last le)) (answers_to state honest moment left_since store shards old new slot asked refl (reading h) (selected_answer place k.done) (λ P. All-nil P)
      (λ now standing r flow.
      let it = right now standing r flow in (
        it.0,
        it.1,
        it.2,
        λ was_right.
            let is_right : IsRightRead shards (stops state honest store shards new.devices) (behind_call now it.0 it.1) (with_call r r.holds r.met it.1) fresh sets k = it.3 r.holds was_right in
            let few = is_right.few in
            reads_answer store shards (stops state honest store shards new.devices) (behind_call now it.0 it.1) (with_call r r.holds r.met it.1) fresh sets k place is_right at (omega (arith, le, few)),
      ))))
      (cases_lt (length k.done) (length sets))

  -- it asks for heads: they tell its place, or that this is not kept yet, or that it is refused
  by_heads : (was is : NodeView D) (r : Result HeadsValue Refusal) (after : ReadView) → IsCalled state honest moment left_since store shards coordinator was is old new
      → Answered state honest moment left_since was (of_coordinator calls.Heads) (from_coordinator (told.Heads r)) is → HeadsGive fresh sets r after → Leads after
  by_heads was is (Err e) after c so gives = subst Leads (sym gives) (fails_to state honest moment left_since store shards old new slot asked refl (reading h) coordinator e calls_coordinator
      (λ now standing. heads_told state honest moment left_since counts_now only_now store shards old new now standing was is (Err e) c so))
  by_heads was is (Ok v) after c so gives = ⊎_elim
      (λ (place, found, goes_on). continues place (record nothing_read { place = Some place }) after refl (begins place found) goes_on)
      (λ rest. ⊎_elim
      (λ later. subst Leads (sym later.1) (goes nothing_read flush (λ now standing r flow.
      let it = heads_told state honest moment left_since counts_now only_now store shards old new now standing was is (Ok v) c so in
      (now.nodes, now.machine, it.0, λ x k. nothing_right (stops state honest store shards new.devices) (behind_call now now.nodes now.machine) (with_call r x r.met now.machine)))))
      (λ (e, why, is_so). subst Leads (sym is_so) (⊎_elim
      (λ future. wants_future state honest moment left_since store shards old new slot asked refl (reading h) counts_now only_now was is v c so (asks_above fresh v (why.future future)) e future)
      (λ collected. wants_collected state honest moment left_since store shards old new slot asked refl (reading h) counts_now only_now was is v c so (asks_below fresh v (why.collected collected)) e collected)
      why.one))
      rest)
      gives
    where
      begins : (place : ℕ) → finding.FindsPlace fresh v place → Right (record nothing_read { place = Some place })
      begins place found now standing r flow =
          let it = heads_told state honest moment left_since counts_now only_now store shards old new now standing was is (Ok v) c so in (
            now.nodes,
            now.machine,
            it.0,
            λ x k.
                let later = with_call r x r.met now.machine in
                let right = subst (AreRightHeads later now.machine) (sym it.1.2) (right_heads store shards (stops state honest store shards old.devices) now it.1.0 standing.stands it.1.1 r x flow.runs) in
                reads_begin store shards (stops state honest store shards new.devices) (behind_call now now.nodes now.machine) later fresh sets nothing_read place
                (nothing_right (stops state honest store shards new.devices) (behind_call now now.nodes now.machine) later) refl
                (places_are_found (behind_call now now.nodes now.machine) later fresh v place right (finds_place fresh v place found)),
          )

  -- after a flush it asks again
  by_flush : (was is : NodeView D) (r : Result (Unit {0}) Refusal) (after : ReadView) → IsCalled state honest moment left_since store shards coordinator was is old new
      → Answered state honest moment left_since was (of_coordinator calls.Flush) (from_coordinator (told.Flush r)) is → FlushGives r after → Leads after
  by_flush was is (Err e) after c so gives = subst Leads (sym gives) (fails_to state honest moment left_since store shards old new slot asked refl (reading h) coordinator e calls_coordinator
      (λ now standing. coordinator_flushed state honest moment left_since counts_now only_now store shards old new now standing was is (Err e) c so))
  by_flush was is (Ok done) after c so gives = subst Leads (sym gives) (goes nothing_read heads (λ now standing r flow.
      let it = coordinator_flushed state honest moment left_since counts_now only_now store shards old new now standing was is (Ok done) c so in
      let kept = all_kept now.machine (it.1.durable ++ it.1.staged) in
      (it.0, kept, it.2, λ x k. nothing_right (stops state honest store shards new.devices) (behind_call now it.0 kept) (with_call r x r.met kept))))

  -- it brings the next tupleset's shard up to its place
  module _ (call : NodeCall) (out : ReadView) (reply : Reply) (after : ReadView) (was is : NodeView D) (v : ReadView) (own : v.holds ≡ h) (asks : CatchesUp shards sets v call out)
      (gives : MatchOption out.awaited ⊥ (λ awaited. GivesTo shards fresh sets out awaited reply after)) (fits : FitsItsTypes call) (c : IsCalled state honest moment left_since store shards (called call) was is old new)
      (so : Answered state honest moment left_since was call reply is) where
    it : CatchUpGives (waiting catch_up (catch_up_call asks.out.awaited) (record h { batch = asks.out.held.batch })) asks.out.awaited reply after
    it = subst (λ (k : ReadHolds). CatchUpGives (waiting catch_up (catch_up_call asks.out.awaited) (record k { batch = asks.out.held.batch })) asks.out.awaited reply after) own
        (subst (λ (o : ReadView). MatchOption o.awaited ⊥ (λ awaited. GivesTo shards fresh sets o awaited reply after)) asks.waits gives)

    at_place : h.place ≡ Some asks.way.to
    at_place = sym (ap (λ (k : ReadHolds). k.place) own) ∙ asks.to

    has_batch : asks.way.batch ≡ h.batch
    has_batch = asks.batch ∙ ap (λ (k : ReadHolds). k.batch) own

    on_shard : CallsShard shards asked (reading h) asks.way.shard
    on_shard = (
      λ none. let bad : Some asks.way.to ≡ None = sym at_place ∙ none in cc,
      (
        asks.set,
        subst (λ (k : ReadHolds). slice_get sets (length k.done) ≡ Some asks.set) own asks.next,
        subst (λ (k : ReadHolds). Needs shards asks.set k.below asks.way.shard) own (subst (Needs shards asks.set v.holds.below) (sym asks.shard) (needs shards asks.set v.holds.below)),
      ),
    )

    on : (now : Moment) (standing : StandsOver state honest store shards old now) (r : Running) → Is now r → IsCatchingUp state honest moment left_since counts_now only_now store shards old new now standing r asks.way
    on now standing r flow =
        let k = held now standing r flow in record {
          runs = flow.runs;
          calls_coordinator = calls_on shards r asked (reading h) coordinator flow.asked_is flow.holds_are calls_coordinator;
          calls_shard = λ there. calls_on shards r asked (reading h) (shard asks.way.shard) flow.asked_is flow.holds_are (there, on_shard);
          lets = subst LetsLearn (sym flow.asked_is) tt;
          kept = (k.place asks.way.to at_place).kept;
          held = ap batch_of flow.holds_are ∙ sym has_batch;
          right = subst (λ (b : Option BatchValue). IfHeld b (IsRightBatch now.machine)) (sym has_batch) k.batch;
        }

    abbrev Comes : Progress → Type 0
    Comes progress = (now : Moment) (standing : StandsOver state honest store shards old now) (r : Running) → Is now r
        → CatchUpComes state honest moment left_since counts_now only_now store shards old new now standing r asks.way.shard asks.way.to (moved asks.way.shard progress)

    comes : Comes it.progress
    comes now standing r flow = came state honest moment left_since counts_now only_now store shards old new asks.way call asks.out it.call asks.asks it.is_awaited (same_Some it.call.held.to asks.way.to (sym it.to ∙ at_place)) it.holds
        reply it.progress was is fits c so it.gives now standing r (on now standing r flow)

    by_progress : (progress : Progress) → Comes progress → ProgressGives (waiting catch_up (catch_up_call asks.out.awaited) (record h { batch = asks.out.held.batch })) progress after → Leads after
    by_progress (Next caught) came_so then = subst Leads (sym then) (goes (record h { batch = caught.batch }) catch_up (λ now standing r flow.
        let at = came_so now standing r flow in
        (at.0, now.machine, at.1, λ x k. re_batched (stops state honest store shards new.devices) (behind_call now at.0 now.machine) (with_call r x r.met now.machine) caught.batch k at.2)))
    by_progress There came_so then = subst Leads (sym then) (goes (record h { batch = None }) read (λ now standing r flow.
        let at = came_so now standing r flow in
        (at.0, now.machine, at.1, λ x k. re_batched (stops state honest store shards new.devices) (behind_call now at.0 now.machine) (with_call r x r.met now.machine) None k (no_batch now.machine))))
    by_progress (is_refused e) came_so then = subst Leads (sym then) (refuses e (λ now standing r flow.
        let at = came_so now standing r flow in
        (at.0, now.machine, at.1, at.2 (ending now at.0 now.machine r []) refl)))

    by_way : Leads after
    by_way = by_progress it.progress comes it.then_gives

  -- it reads the next tupleset's rows at that shard
  module _ (set : Tupleset) (place : ℕ) (at : h.place ≡ Some place) (next_set : slice_get sets (length h.done) ≡ Some set) where
    is_reading : IsReading sets h place set
    is_reading = record { at_place = at; next = next_set }

    -- the shard selected these of its tuples
    abbrev Selects : ℕ → Tupleset → List Tuple → Type 0
    Selects s q more = (now : Moment) (standing : StandsOver state honest store shards old now) (r : Running) → Is now r
        → IsQuietlyMade state honest moment left_since store shards old new now standing now.nodes now.machine × IsSelection (there_of shards s now.machine.log place) q more

    -- a tupleset is done
    finishes : (rows : List Tuple) (after : ReadView) → Right (record h { done = h.done ++ rows ∷ []; below = 0; rows = [] }) → Finishes sets place h rows after → Leads after
    finishes rows after right gives = ⊎_elim
        (λ none. subst Leads (sym none) (lacks (λ now standing r flow. let it = right now standing r flow in (it.0, it.1, it.2, tt))))
        (λ goes_on. continues place (record h { done = h.done ++ rows ∷ []; below = 0; rows = [] }) after at right goes_on)
        gives

    -- the rows of the one shard that has them are all of the tupleset
    by_one : (s : ℕ) (more : List Tuple) (after : ReadView) → NeedsOnly shards set s → Selects s set more → Finishes sets place h more after → Leads after
    by_one s more after only selects gives = finishes more after
        (λ now standing r flow.
        let it = selects now standing r flow in (
          now.nodes,
          now.machine,
          it.0,
          λ x k. reads_finish store shards (stops state honest store shards new.devices) (behind_call now now.nodes now.machine) (with_call r x r.met now.machine) fresh sets h place set more k is_reading
              (one_shard_is_enough shards s now.machine.log place set more only it.1),
        ))
        gives

    -- with the rows of one more shard it holds what is right
    abbrev with_more : List Tuple → ReadHolds
    with_more merged = record h { below = h.below + 1; rows = merged }

    merged_right : (more merged : List Tuple) → (AreAscending h.rows → AreAscending more → IsMerged h.rows more merged) → (now : Moment) (r : Running) (x : Holds)
        → IsSelection (there_of shards h.below now.machine.log place) set more
        → IsRightRead shards (stops state honest store shards new.devices) (behind_call now now.nodes now.machine) (with_call r x r.met now.machine) fresh sets h
        → IsRightRead shards (stops state honest store shards new.devices) (behind_call now now.nodes now.machine) (with_call r x r.met now.machine) fresh sets (with_more merged)
    merged_right more merged is_merged now r x chosen k = reads_go_on_all store shards (stops state honest store shards new.devices) (behind_call now now.nodes now.machine) (with_call r x r.met now.machine) fresh sets h place set more merged
        k is_reading chosen (is_merged (k.rows place set at next_set).ascending chosen.ascending)

    -- those of one more shard are merged with the others, and after the last shard the tupleset is done
    by_all : (more : List Tuple) (after : ReadView) → h.below < shards → Selects h.below set more → Merges shards sets place h more after → Leads after
    by_all more after few selects gives = ⊎_elim
        (λ (lt : h.below + 1 < shards). subst Leads (sym (gives.next lt)) (goes (with_more gives.merged) catch_up (λ now standing r flow.
        let it = selects now standing r flow in (now.nodes, now.machine, it.0, λ x k. merged_right more gives.merged gives.is_merged now r x it.1 k))))
        (λ (le : shards ≤ h.below + 1). finishes gives.merged after
        (λ now standing r flow.
        let it = selects now standing r flow in (
          now.nodes,
          now.machine,
          it.0,
          λ x k.
              let later = with_call r x r.met now.machine in
              let behind = behind_call now now.nodes now.machine in
              reads_finish store shards (stops state honest store shards new.devices) behind later fresh sets h place set gives.merged k is_reading
              (reads_ask_all_of store shards (stops state honest store shards new.devices) behind later fresh sets (with_more gives.merged) place set (omega (arith, few)) (merged_right more gives.merged gives.is_merged now r x it.1 k)
              (record { at_place = at; next = next_set }) (omega (arith, few, le))),
        ))
        (gives.last le))
        (cases_lt (h.below + 1) shards)

    by_rows : (q : Tupleset) → q ≡ set → (s : ℕ) → s ≡ shard_for shards q h.below → s < shards → (more : List Tuple) (after : ReadView) → Selects s set more → RowsGive shards sets place h q more after → Leads after
    by_rows (Key t) is s s_is there more after selects gives = by_one s more after (subst (λ (q : Tupleset). NeedsOnly shards q s) is s_is) selects gives
    by_rows (OfObject o relation) is s s_is there more after selects gives = by_one s more after (subst (λ (q : Tupleset). NeedsOnly shards q s) is s_is) selects gives
    by_rows (OfUser n u relation) is s s_is there more after selects gives = ⊎_elim
        (λ none. subst Leads (sym none) (lacks (λ now standing r flow. let it = selects now standing r flow in (now.nodes, now.machine, it.0, tt))))
        (λ merges. by_all more after (subst (λ (n : ℕ). n < shards) s_is there) (subst (λ (n : ℕ). Selects n set more) s_is selects) merges)
        gives

    module _ (was is : NodeView D) (c : IsCalled state honest moment left_since store shards (shard (shard_for shards set h.below)) was is old new) where
      abbrev s : ℕ
      s = shard_for shards set h.below

      by_answer : (r : Result ReadReply Refusal) (after : ReadView) → Answered state honest moment left_since was (of_shard s (shard_calls.Read place set)) (from_shard (told_by.Read set r)) is
          → ReadGives shards sets (waiting read read_call h) set r after → Leads after
      by_answer (Ok (Rows more)) after so gives = by_rows set refl s refl c.before.there more.items after
          (λ now standing r flow.
          let it = (read_told state honest moment left_since counts_now only_now store shards old new now standing s place set set was is (Ok (Rows more)) c so).1 in
          let k = held now standing r flow in (
            it.0,
            all_replies_select store shards (stops state honest store shards old.devices) now s place set more.items standing.stands (some_coordinator state honest store shards old now standing) c.before.there (k.place place at).kept
                (record { memory = memory it.1.0; knows = knows store shards (stops state honest store shards old.devices) now it.1.0 s it.1.1; learned = it.1.3.learned; above = it.1.3.above; selected = it.1.3.rows_are }),
          ))
          (gives place at)
      by_answer (Ok Behind) after so gives = subst Leads (sym gives) (goes h catch_up (λ now standing r flow.
          let it = (read_told state honest moment left_since counts_now only_now store shards old new now standing s place set set was is (Ok Behind) c so).1 in
          (now.nodes, now.machine, it.0, λ x k. k)))
      by_answer (Err e) after so gives = subst Leads (sym gives) (refuses e (λ now standing r flow. ⊎_elim
          (λ fails. (
            fails.0,
            now.machine,
            fails.1,
            fails.2 r (ending now fails.0 now.machine r []) refl
                (calls_on shards r asked (reading h) (shard s) flow.asked_is flow.holds_are (c.before.there, (λ none. let bad : Some place ≡ None = sym at ∙ none in cc, (set, next_set, needs shards set h.below)))),
          ))
          (λ told_so. (
            now.nodes,
            now.machine,
            still_of state honest moment left_since store shards old new now standing (shard s) told_so.0,
            refused_reads_have_cause store shards (stops state honest store shards old.devices) state honest now (ending now now.nodes now.machine r []) told_so.1.0 s fresh sets place e r h standing.stands told_so.1.1
                flow.runs flow.asked_is flow.holds_are at told_so.1.3,
          ))
          (read_told state honest moment left_since counts_now only_now store shards old new now standing s place set set was is (Err e) c so).1))

      replied : (reply : Reply) (after : ReadView) → Answered state honest moment left_since was (of_shard s (shard_calls.Read place set)) reply is
          → IsReplyTo (of_shard s (shard_calls.Read place set)) reply → GivesTo shards fresh sets (waiting read read_call h) read_call reply after → Leads after
      replied (from_shard (told_by.Read back r)) after so belongs gives = by_answer r after
          (subst (λ (q : Tupleset). Answered state honest moment left_since was (of_shard s (shard_calls.Read place set)) (from_shard (told_by.Read q r)) is) belongs so)
          (subst (λ (q : Tupleset). ReadGives shards sets (waiting read read_call h) q r after) belongs gives)
      replied reply after so belongs gives = absurd gives

  -- the reply, by the call that waits for it
  heads_replied : (was is : NodeView D) (reply : Reply) (after : ReadView) → IsCalled state honest moment left_since store shards coordinator was is old new
      → Answered state honest moment left_since was (of_coordinator calls.Heads) reply is → GivesTo shards fresh sets (waiting heads heads_call h) heads_call reply after → Leads after
  heads_replied was is (from_coordinator (told.Heads r)) after c so gives = by_heads was is r after c so gives
  heads_replied was is reply after c so gives = absurd gives

  flush_replied : (was is : NodeView D) (reply : Reply) (after : ReadView) → IsCalled state honest moment left_since store shards coordinator was is old new
      → Answered state honest moment left_since was (of_coordinator calls.Flush) reply is → GivesTo shards fresh sets (waiting flush flush_call h) flush_call reply after → Leads after
  flush_replied was is (from_coordinator (told.Flush r)) after c so gives = by_flush was is r after c so gives
  flush_replied was is reply after c so gives = absurd gives

  -- whichever call it makes
  by_step : (step : ReadStep) (call : NodeCall) (out : ReadView) (reply : Reply) (after : ReadView) (was is : NodeView D) (v : ReadView) → v.holds ≡ h → AsksFor step shards sets v call out
      → MatchOption out.awaited ⊥ (λ awaited. GivesTo shards fresh sets out awaited reply after) → FitsItsTypes call → IsCalled state honest moment left_since store shards (called call) was is old new
      → Answered state honest moment left_since was call reply is → Leads after
  by_step heads call out reply after was is v own asks gives fits c so = heads_replied was is reply after
      (subst (λ (x : NodeCall). IsCalled state honest moment left_since store shards (called x) was is old new) asks.0 c)
      (subst (λ (x : NodeCall). Answered state honest moment left_since was x reply is) asks.0 so)
      (subst (λ (k : ReadHolds). GivesTo shards fresh sets (waiting heads heads_call k) heads_call reply after) own
      (subst (λ (o : ReadView). MatchOption o.awaited ⊥ (λ awaited. GivesTo shards fresh sets o awaited reply after)) asks.1 gives))
  by_step flush call out reply after was is v own asks gives fits c so = flush_replied was is reply after
      (subst (λ (x : NodeCall). IsCalled state honest moment left_since store shards (called x) was is old new) asks.0 c)
      (subst (λ (x : NodeCall). Answered state honest moment left_since was x reply is) asks.0 so)
      (subst (λ (k : ReadHolds). GivesTo shards fresh sets (waiting flush flush_call k) flush_call reply after) own
      (subst (λ (o : ReadView). MatchOption o.awaited ⊥ (λ awaited. GivesTo shards fresh sets o awaited reply after)) asks.1 gives))
  by_step catch_up call out reply after was is v own asks gives fits c so = by_way call out reply after was is v own asks gives fits c so
  by_step read call out reply after was is v own asks gives fits c so =
      let shard_is : shard_for shards asks.set v.holds.below ≡ shard_for shards asks.set h.below = ap (λ (k : ReadHolds). shard_for shards asks.set k.below) own in
      let call_is : call ≡ of_shard (shard_for shards asks.set h.below) (shard_calls.Read asks.place asks.set) = asks.call_is ∙ ap (λ (n : ℕ). of_shard n (shard_calls.Read asks.place asks.set)) shard_is in
      let c_here = subst (λ (x : NodeCall). IsCalled state honest moment left_since store shards (called x) was is old new) call_is c in
      let so_here = subst (λ (x : NodeCall). Answered state honest moment left_since was x reply is) call_is so in
      replied asks.set asks.place (sym (ap (λ (k : ReadHolds). k.place) own) ∙ asks.at_place) (subst (λ (k : ReadHolds). slice_get sets (length k.done) ≡ Some asks.set) own asks.next) was is c_here reply after so_here
      (belongs_to state honest moment left_since store shards old new (of_shard (shard_for shards asks.set h.below) (shard_calls.Read asks.place asks.set)) reply was is c_here tt so_here)
      (subst (λ (k : ReadHolds). GivesTo shards fresh sets (waiting read read_call k) read_call reply after) own
      (subst (λ (o : ReadView). MatchOption o.awaited ⊥ (λ awaited. GivesTo shards fresh sets o awaited reply after)) asks.waits gives))

pub reads_turn : {D : Type 0} (state : D → State) (honest : D → Type 0) (moment : D → ℕ) (left_since : D → ℕ → List ℕ → Type 0)
    (counts_now : (d : D) (t : ℕ) (c : List ℕ) → honest d → t ≤ moment d → left (state d) c → left_since d t c) (only_now : (d : D) (c : List ℕ) → honest d → left_since d (moment d) c → left (state d) c)
    (store shards : ℕ) → ReadsTurn state honest moment left_since store shards
reads_turn state honest moment left_since counts_now only_now store shards old new slot v after t =
    by_step state honest moment left_since counts_now only_now store shards old new slot v.fresh v.sets v.holds v.next t.call t.out t.reply after t.was t.is (seen_of v) refl
    (subst (λ (n : ℕ). AsksFor v.next n v.sets (seen_of v) t.call t.out) t.of_store t.asks.asks)
    (subst (λ (n : ℕ). MatchOption t.out.awaited ⊥ (λ awaited. GivesTo n v.fresh v.sets t.out awaited t.reply after)) t.of_store t.gives)
    t.fits t.called_is t.answers t.turns
