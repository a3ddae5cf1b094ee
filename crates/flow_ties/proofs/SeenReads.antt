-- What a read holds is of the list that was seen, from its beginning to its answer.
use Rattle.std.proofs.Common.{◌≡◌, ⊎_elim, ℕ, ◌≤◌, ◌<◌, ◌+◌, ◌&&◌, Bool, nat_lt, List, [], ◌∷◌, ◌++◌, length, Option, Some, None, Result, Ok, Err, slice_get, refl, sym, ◌∙◌, ap, subst, arith}
use Rattle.std.proofs.lemmas.Bool.{cases_lt}
use Rattle.std.proofs.lemmas.List.{length_push}
use Rattle.std.proofs.lemmas.Option.{same_Some, slice_get_within}
use mathlib.Core.List.{IsPrefix}
use Rattle.flow_ties.proofs.Words.{AreRowsAt, BatchValue, Behind, Coordinator, Entry, Finishes, Freshness, from_coordinator, from_shard, HeadsValue, IsAsAsked, IsBatchOf, IsHeld, IsReplyTo, IsSelection, IsTold, Key, MayBeMade, Next, NodeCall, NoMemory, nothing_read, OfObject, OfUser, Progress, ReadAwaited, ReadHolds, ReadReply, ReadStep, ReadView, Refusal, Refused, Reply, Rows, selected, Shard, shard_of, There, Tuple, Tupleset}
use Rattle.tuples.specs.Log.{is_at}
use Rattle.tuples.specs.Reads.{AreAscending}
use Rattle.tuples.proofs.Lists.{slice_get_push, prefix_length}
use Rattle.decisions.specs.Merging.{IsMerged, NeedsOnly}
use Rattle.calls.specs.declared.call.CoordinatorCall.TheVariants as calls
use Rattle.calls.specs.declared.call.ShardCall.TheVariants as shard_calls
use Rattle.calls.specs.declared.reply.CoordinatorReply.TheVariants as told
use Rattle.calls.specs.declared.reply.ShardReply.TheVariants as told_by
use Rattle.answer_flow.specs.Reading.{Asks, AsksFor, CatchUpGives, CatchesUp, Continues, FlushGives, GivesTo, HeadsGive, Merges, ProgressGives, ReadGives, RowsGive}
use Rattle.answer_flow.specs.ReadViews.{ReadEnding, at_rest, catch_up, catch_up_call, ended, flush, flush_call, heads, heads_call, read, read_call, refused, shard_for, waiting}
use Rattle.laws.specs.Shards.{there_below, there_of}
use Rattle.laws.proofs.ReadRows.{none_below, one_shard_is_enough, rows_go_on, rows_of_all}
use Rattle.flow_ties.specs.Reads.{AnswersRows, HoldsRows, IsReadOf, ReadsAnswerWhatIsSeen, ReadsBegin, ReadsBeginAtPlaces, ReadsHandOverWhatIsSeen, ReadsStaySeen}
use Rattle.flow_ties.proofs.Places.{asked_place, at_prefix, kept_place}
use Rattle.flow_ties.proofs.CatchUps.{HoldsOn, caught, held_longer, none_held}

module _ (shards : ℕ) (fresh : Freshness) (sets : List Tupleset) where
  rows_longer : (seen longer : List Entry) (place : ℕ) (h : ReadHolds) → IsPrefix seen longer → HoldsRows shards seen fresh sets place h → HoldsRows shards longer fresh sets place h
  rows_longer seen longer place h pre was =
      let same : is_at seen place ≡ is_at longer place = at_prefix seen longer place pre was.there in
      record {
        there = let le = prefix_length seen longer pre in omega (arith, le, was.there);
        wanted = was.wanted;
        done = λ i q rows at_set at_row. subst (λ (there : Tuple → Bool). IsSelection there q rows) same (was.done i q rows at_set at_row);
        few = was.few;
        rows = λ q at. subst (λ (there : Tuple → Bool). IsSelection (λ t. there t && nat_lt (shard_of shards t.object) h.below) q h.rows) same (was.rows q at);
      }

  answers_longer : (seen longer : List Entry) (end : Option ReadEnding) → IsPrefix seen longer → AnswersRows seen fresh sets end → AnswersRows longer fresh sets end
  answers_longer seen longer end pre was place done is =
      let it = was place done is in
      record {
        there = let le = prefix_length seen longer pre in omega (arith, le, it.there);
        wanted = it.wanted;
        all = it.all;
        each = λ i q rows at_set at_row. subst (λ (there : Tuple → Bool). IsSelection there q rows) (at_prefix seen longer place pre it.there) (it.each i q rows at_set at_row);
      }

  longer_read : (seen longer : List Entry) (v : ReadView) → IsPrefix seen longer → IsReadOf shards seen fresh sets v → IsReadOf shards longer fresh sets v
  longer_read seen longer v pre was = record {
    nothing = was.nothing;
    held = λ place is. rows_longer seen longer place v.holds pre (was.held place is);
    batch = held_longer seen longer v.holds.batch pre was.batch;
    answers = answers_longer seen longer v.ended pre was.answers;
  }

pub reads_stay_seen : ReadsStaySeen
reads_stay_seen shards seen longer fresh sets v pre was = longer_read shards fresh sets seen longer v pre was

module _ (shards : ℕ) (seen : List Entry) (fresh : Freshness) (sets : List Tupleset) where
  abbrev Is : ReadView → Type 0
  Is v = IsReadOf shards seen fresh sets v

  no_answer : AnswersRows seen fresh sets None
  no_answer place done none = absurd (let bad : None ≡ Some (selected place done) = none in cc)

  -- it has its place, and holds what is of the list
  rests_at : (place : ℕ) (h : ReadHolds) (step : ReadStep) → h.place ≡ Some place → HoldsRows shards seen fresh sets place h → IsHeld seen h.batch → Is (at_rest step h)
  rests_at place h step at holds batch = record {
    nothing = λ none. absurd (let bad : None ≡ Some place = sym none ∙ at in cc);
    held = λ s is. subst (λ (n : ℕ). HoldsRows shards seen fresh sets n h) (same_Some place s (sym at ∙ is)) holds;
    batch = batch;
    answers = no_answer;
  }

  -- before it has its place it holds nothing
  rests_nowhere : (step : ReadStep) → Is (at_rest step nothing_read)
  rests_nowhere step = record {
    nothing = λ none. refl;
    held = λ place none. absurd (let bad : None ≡ Some place = none in cc);
    batch = none_held seen;
    answers = no_answer;
  }

  is_refused : (e : Refusal) → Is (ended (refused e))
  is_refused e = record {
    nothing = λ none. refl;
    held = λ place none. absurd (let bad : None ≡ Some place = none in cc);
    batch = none_held seen;
    answers = λ place done is. absurd (let bad : Some (refused e) ≡ Some (selected place done) = is in cc);
  }

  -- an end tells what is so
  abbrev Told : ReadEnding → Type 0
  Told (selected s rows) = AreRowsAt seen fresh sets s rows
  Told (refused e) = Unit {0}

  answered : (place : ℕ) (done : List (List Tuple)) → AreRowsAt seen fresh sets place done → Is (ended (selected place done))
  answered place done are = record {
    nothing = λ none. refl;
    held = λ s none. absurd (let bad : None ≡ Some s = none in cc);
    batch = none_held seen;
    answers = λ s rows is.
        let same : selected place done ≡ selected s rows = same_Some (selected place done) (selected s rows) is in
        subst (λ (end : ReadEnding). Told end) same are;
  }

  -- it goes on to its next tupleset, or answers after the last one
  continues : (place : ℕ) (h : ReadHolds) (after : ReadView) → h.place ≡ Some place → HoldsRows shards seen fresh sets place h → IsHeld seen h.batch → Continues sets place h after → Is after
  continues place h after at holds batch gives = ⊎_elim
      (λ (lt : length h.done < length sets). ⊎_elim
      (λ goes_on. subst Is (sym goes_on) (rests_at place h catch_up at holds batch))
      (λ none. subst Is (sym none) (is_refused NoMemory))
      (gives.more lt))
      (λ (le : length sets ≤ length h.done). subst Is (sym (gives.last le)) (answered place h.done (record { there = holds.there; wanted = holds.wanted; all = let few = holds.few in omega (arith, le, few); each = holds.done })))
      (cases_lt (length h.done) (length sets))

  -- what it holds when it has just found its place
  begins_with : (place : ℕ) → place ≤ length seen → IsAsAsked fresh place → HoldsRows shards seen fresh sets place (record nothing_read { place = Some place })
  begins_with place le wanted = record {
    there = le;
    wanted = wanted;
    done = λ i q rows at_set at_row. absurd (let bad : None ≡ Some rows = at_row in cc);
    few = omega arith;
    rows = λ q at. none_below shards seen place q;
  }

  pub begins : (place : ℕ) (v : ReadView) → place ≤ length seen → IsAsAsked fresh place → Continues sets place (record nothing_read { place = Some place }) v → Is v
  begins place v le wanted gives = continues place (record nothing_read { place = Some place }) v refl (begins_with place le wanted) (none_held seen) gives

  by_heads : (r : Result HeadsValue Refusal) (after : ReadView) → IsTold shards seen (Coordinator calls.Heads) (from_coordinator (told.Heads r)) → HeadsGive fresh sets r after → Is after
  by_heads (Err e) after is_told gives = subst Is (sym gives) (is_refused e)
  by_heads (Ok v) after is_told gives = ⊎_elim
      (λ (place, found, goes_on). begins place after (let le = kept_place fresh v place found in omega (arith, le, is_told)) (asked_place fresh v place found) goes_on)
      (λ rest. ⊎_elim
      (λ later. subst Is (sym later.1) (rests_nowhere flush))
      (λ (e, why, is_so). subst Is (sym is_so) (is_refused e))
      rest)
      gives

  by_flush : (r : Result (Unit {0}) Refusal) (after : ReadView) → FlushGives r after → Is after
  by_flush (Ok done) after gives = subst Is (sym gives) (rests_nowhere heads)
  by_flush (Err e) after gives = subst Is (sym gives) (is_refused e)

  module _ (v : ReadView) (is : Is v) where
    -- with other decisions on their way
    re_batched : (batch : Option BatchValue) (step : ReadStep) (place : ℕ) → v.holds.place ≡ Some place → IsHeld seen batch → Is (at_rest step (record v.holds { batch = batch }))
    re_batched batch step place at held = rests_at place (record v.holds { batch = batch }) step at (holds (is.held place at)) held
      where
        holds : HoldsRows shards seen fresh sets place v.holds → HoldsRows shards seen fresh sets place (record v.holds { batch = batch })
        holds was = record { there = was.there; wanted = was.wanted; done = was.done; few = was.few; rows = was.rows }

    by_progress : (out : ReadView) (batch : Option BatchValue) (place : ℕ) → out.holds ≡ record v.holds { batch = batch } → v.holds.place ≡ Some place
        → (progress : Progress) (after : ReadView) → HoldsOn seen progress → ProgressGives out progress after → Is after
    by_progress out batch place same at (Next c) after holds gives =
        subst Is (sym (gives ∙ ap (λ (h : ReadHolds). at_rest catch_up (record h { batch = c.batch })) same)) (re_batched c.batch catch_up place at holds)
    by_progress out batch place same at There after holds gives =
        subst Is (sym (gives ∙ ap (λ (h : ReadHolds). at_rest read (record h { batch = None })) same)) (re_batched None read place at (none_held seen))
    by_progress out batch place same at (Refused e) after holds gives = subst Is (sym gives) (is_refused e)

    by_way : (call : NodeCall) (out : ReadView) (reply : Reply) (after : ReadView) (asks : CatchesUp shards sets v call out) → IsReplyTo call reply → IsTold shards seen call reply
        → ((awaited : ReadAwaited) → out.awaited ≡ Some awaited → GivesTo shards fresh sets out awaited reply after) → Is after
    by_way call out reply after asks belongs is_told gives =
        let it : CatchUpGives out asks.out.awaited reply after = gives (catch_up_call asks.out.awaited) (ap (λ (o : ReadView). o.awaited) asks.waits) in
        let same : out.holds ≡ record v.holds { batch = asks.out.held.batch } = ap (λ (o : ReadView). o.holds) asks.waits in
        by_progress out asks.out.held.batch asks.way.to same asks.to it.progress after
        (caught shards seen asks.way asks.out it.call it.is_awaited (it.holds ∙ ap (λ (h : ReadHolds). h.batch) same) (subst (IsHeld seen) (sym asks.batch) is.batch) call reply it.progress asks.asks belongs is_told it.gives)
        it.then_gives

    -- it reads the next tupleset's rows at a shard
    module _ (set : Tupleset) (place : ℕ) (at : v.holds.place ≡ Some place) (next : slice_get sets (length v.holds.done) ≡ Some set) where
      old : HoldsRows shards seen fresh sets place v.holds
      old = is.held place at

      finished : (rows : List Tuple) → IsSelection (is_at seen place) set rows → HoldsRows shards seen fresh sets place (record v.holds { done = v.holds.done ++ rows ∷ []; below = 0; rows = [] })
      finished rows selects = record {
        there = old.there;
        wanted = old.wanted;
        done = λ i q row at_set at_row. ⊎_elim
            (λ was. old.done i q row at_set was)
            (λ new.
            let same_set : set ≡ q = same_Some set q (sym next ∙ ap (slice_get sets) (sym new.0) ∙ at_set) in
            subst (λ (x : Tupleset). IsSelection (is_at seen place) x row) same_set (subst (λ (x : List Tuple). IsSelection (is_at seen place) set x) new.1 selects))
            (slice_get_push v.holds.done rows row i at_row);
        few = let lt : length v.holds.done < length sets = slice_get_within sets (length v.holds.done) set next in omega (arith, lt, length_push v.holds.done rows);
        rows = λ q none. none_below shards seen place q;
      }

      finishes : (rows : List Tuple) (after : ReadView) → IsSelection (is_at seen place) set rows → Finishes sets place v.holds rows after → Is after
      finishes rows after selects gives = ⊎_elim
          (λ none. subst Is (sym none) (is_refused NoMemory))
          (λ goes_on. continues place (record v.holds { done = v.holds.done ++ rows ∷ []; below = 0; rows = [] }) after at (finished rows selects) is.batch goes_on)
          gives

      merged_rows : (more merged : List Tuple) → (AreAscending v.holds.rows → AreAscending more → IsMerged v.holds.rows more merged) → IsSelection (there_of shards v.holds.below seen place) set more
          → IsSelection (there_below shards (v.holds.below + 1) seen place) set merged
      merged_rows more merged merges selects =
          let was = old.rows set next in
          rows_go_on shards seen place set v.holds.below v.holds.rows more merged was selects (merges was.ascending selects.ascending)

      by_all : (more : List Tuple) (after : ReadView) → v.holds.below < shards → IsSelection (there_of shards v.holds.below seen place) set more → Merges shards sets place v.holds more after → Is after
      by_all more after few selects gives =
          let rows = merged_rows more gives.merged gives.is_merged selects in
          ⊎_elim
          (λ (lt : v.holds.below + 1 < shards). subst Is (sym (gives.next lt)) (rests_at place (record v.holds { below = v.holds.below + 1; rows = gives.merged }) catch_up at
          (record { there = old.there; wanted = old.wanted; done = old.done; few = old.few; rows = λ q is_next. subst (λ (x : Tupleset). IsSelection (there_below shards (v.holds.below + 1) seen place) x gives.merged) (same_Some set q (sym next ∙ is_next)) rows })
          is.batch))
          (λ (le : shards ≤ v.holds.below + 1). finishes gives.merged after (rows_of_all shards seen place set gives.merged (v.holds.below + 1) (omega (arith, few)) (omega (arith, few, le)) rows) (gives.last le))
          (cases_lt (v.holds.below + 1) shards)

      by_rows : (q : Tupleset) → q ≡ set → (s : ℕ) → s ≡ shard_for shards q v.holds.below → s < shards → (more : List Tuple) (after : ReadView) → IsSelection (there_of shards s seen place) set more
          → RowsGive shards sets place v.holds q more after → Is after
      by_rows (Key t) same s s_is lt more after selects gives =
          finishes more after (one_shard_is_enough shards s seen place set more (subst (λ (q : Tupleset). NeedsOnly shards q s) same s_is) selects) gives
      by_rows (OfObject o relation) same s s_is lt more after selects gives =
          finishes more after (one_shard_is_enough shards s seen place set more (subst (λ (q : Tupleset). NeedsOnly shards q s) same s_is) selects) gives
      by_rows (OfUser n u relation) same s s_is lt more after selects gives = ⊎_elim
          (λ none. subst Is (sym none) (is_refused NoMemory))
          (λ merges. by_all more after (subst (λ (n : ℕ). n < shards) s_is lt) (subst (λ (n : ℕ). IsSelection (there_of shards n seen place) set more) s_is selects) merges)
          gives

      abbrev s : ℕ
      s = shard_for shards set v.holds.below

      by_answer : (r : Result ReadReply Refusal) (after : ReadView) → s < shards → IsTold shards seen (Shard s (shard_calls.Read place set)) (from_shard (told_by.Read set r)) → ReadGives shards sets v set r after → Is after
      by_answer (Ok (Rows more)) after lt is_told gives = by_rows set refl s refl lt more.items after is_told.1 (gives place at)
      by_answer (Ok Behind) after lt is_told gives = subst Is (sym gives) (rests_at place v.holds catch_up at old is.batch)
      by_answer (Err e) after lt is_told gives = subst Is (sym gives) (is_refused e)

      -- while the call is out it holds the same
      by_read : (out : ReadView) (reply : Reply) (after : ReadView) → out ≡ waiting read read_call v.holds → s < shards → IsReplyTo (Shard s (shard_calls.Read place set)) reply
          → IsTold shards seen (Shard s (shard_calls.Read place set)) reply → GivesTo shards fresh sets out read_call reply after → Is after
      by_read out (from_shard (told_by.Read back r)) after waits lt belongs is_told gives = by_answer r after lt
          (subst (λ (q : Tupleset). IsTold shards seen (Shard s (shard_calls.Read place set)) (from_shard (told_by.Read q r))) belongs is_told)
          (same_holds r (subst (λ (q : Tupleset). ReadGives shards sets out q r after) belongs gives))
        where
          same_holds : (x : Result ReadReply Refusal) → ReadGives shards sets out set x after → ReadGives shards sets v set x after
          same_holds (Ok (Rows more)) gives_so = λ p is_p. subst (λ (h : ReadHolds). RowsGive shards sets p h set more.items after) (ap (λ (o : ReadView). o.holds) waits)
              (gives_so p (ap (λ (o : ReadView). o.holds.place) waits ∙ is_p))
          same_holds (Ok Behind) gives_so = gives_so ∙ ap (λ (o : ReadView). at_rest catch_up o.holds) waits
          same_holds (Err e) gives_so = gives_so
      by_read out reply after waits lt belongs is_told gives = absurd gives

    heads_replied : (reply : Reply) (after out : ReadView) → IsTold shards seen (Coordinator calls.Heads) reply → GivesTo shards fresh sets out heads_call reply after → Is after
    heads_replied (from_coordinator (told.Heads r)) after out is_told gives = by_heads r after is_told gives
    heads_replied reply after out is_told gives = absurd gives

    flush_replied : (reply : Reply) (after out : ReadView) → GivesTo shards fresh sets out flush_call reply after → Is after
    flush_replied (from_coordinator (told.Flush r)) after out gives = by_flush r after gives
    flush_replied reply after out gives = absurd gives

    -- whichever call it makes
    by_step : (step : ReadStep) (call : NodeCall) (out : ReadView) (reply : Reply) (after : ReadView) → AsksFor step shards sets v call out → Asks shards sets v call out → IsReplyTo call reply → IsTold shards seen call reply
        → ((awaited : ReadAwaited) → out.awaited ≡ Some awaited → GivesTo shards fresh sets out awaited reply after) → Is after
    by_step heads call out reply after asks all belongs is_told gives =
        heads_replied reply after out (subst (λ (c : NodeCall). IsTold shards seen c reply) asks.0 is_told) (gives heads_call (ap (λ (o : ReadView). o.awaited) asks.1))
    by_step flush call out reply after asks all belongs is_told gives = flush_replied reply after out (gives flush_call (ap (λ (o : ReadView). o.awaited) asks.1))
    by_step catch_up call out reply after asks all belongs is_told gives = by_way call out reply after asks belongs is_told gives
    by_step read call out reply after asks all belongs is_told gives =
        let of_shard : NodeCall = Shard (shard_for shards asks.set v.holds.below) (shard_calls.Read asks.place asks.set) in
        let lt : shard_for shards asks.set v.holds.below < shards = (subst (λ (c : NodeCall). MayBeMade shards c) asks.call_is all.owed).0 in
        by_read asks.set asks.place asks.at_place asks.next out reply after asks.waits lt (subst (λ (c : NodeCall). IsReplyTo c reply) asks.call_is belongs)
        (subst (λ (c : NodeCall). IsTold shards seen c reply) asks.call_is is_told) (gives read_call (ap (λ (o : ReadView). o.awaited) asks.waits))

pub reads_begin : ReadsBegin
reads_begin shards seen fresh sets = rests_nowhere shards seen fresh sets heads

pub reads_begin_at_places : ReadsBeginAtPlaces
reads_begin_at_places shards seen fresh sets place v le wanted gives = begins shards seen fresh sets place v le wanted gives

pub reads_answer_what_is_seen : ReadsAnswerWhatIsSeen
reads_answer_what_is_seen shards seen later fresh sets v after pre was turns =
    by_step shards later fresh sets v (longer_read shards fresh sets seen later v pre was) v.next turns.call turns.out turns.reply after turns.asks.asks turns.asks turns.belongs turns.told turns.gives

pub reads_hand_over_what_is_seen : ReadsHandOverWhatIsSeen
reads_hand_over_what_is_seen shards s seen fresh sets v out b was asks = by_step_of v.next asks.asks
  where
    by_step_of : (step : ReadStep) → AsksFor step shards sets v (Shard s (shard_calls.Learn b)) out → IsBatchOf seen b
    by_step_of heads asks_for = absurd (let bad : Shard s (shard_calls.Learn b) ≡ Coordinator calls.Heads = asks_for.0 in cc)
    by_step_of flush asks_for = absurd (let bad : Shard s (shard_calls.Learn b) ≡ Coordinator calls.Flush = asks_for.0 in cc)
    by_step_of catch_up asks_for = was.batch b (sym asks_for.batch ∙ asks_for.asks.1.0)
    by_step_of read asks_for = absurd (cc asks_for.call_is)
