-- What a check holds is of the list that was seen, from its beginning to its answer.
use Rattle.std.proofs.Common.{◌≡◌, ◌≢◌, ⊎_elim, ℕ, Bool, true, false, true≢false, ◌≤◌, ◌<◌, List, [], ◌∷◌, length, Option, Some, None, Result, Ok, Err, slice_get, IsTrue, ◌↔◌, refl, sym, ◌∙◌, ap, subst, arith}
use Rattle.std.proofs.lemmas.Bool.{cases_lt}
use Rattle.std.proofs.lemmas.Option.{same_Some}
use mathlib.Core.List.{IsPrefix}
use Rattle.flow_ties.proofs.Words.{AsksFor, at_rest, BatchValue, Behind, catch_up, catch_up_call, CatchesUp, CatchUpGives, CheckAwaited, checked, CheckHolds, CheckStep, CheckView, Continues, Coordinator, ended, Entry, flush, flush_call, FlushGives, Freshness, from_coordinator, from_shard, Full, GivesTo, goes_on, has_or_not, heads, heads_call, HeadsGive, HeadsValue, holding, HoldsWalk, IsAsAsked, IsBatchOf, IsCheckOf, IsCheckSelection, IsHeld, IsMembershipAt, IsReplyTo, IsTold, max_walked, Next, NodeCall, NoMemory, one_shard_is_asked, Progress, ProgressGives, read, read_call, ReadGives, ReadReply, Refusal, Refused, refused, Reply, Rows, RowsGive, Shard, shard_of, There, Tuple, User, Userset}
use Rattle.tuples.specs.Checking.{IsMember}
use Rattle.tuples.specs.Log.{is_at}
use Rattle.tuples.proofs.Lists.{contained_from, prefix_length}
use Rattle.calls.specs.declared.call.CoordinatorCall.TheVariants as calls
use Rattle.calls.specs.declared.call.ShardCall.TheVariants as shard_calls
use Rattle.calls.specs.declared.reply.CoordinatorReply.TheVariants as told
use Rattle.calls.specs.declared.reply.ShardReply.TheVariants as told_by
use Rattle.answer_flow.specs.CheckViews.{CheckEnding, begins_at}
use Rattle.laws.specs.Walks.{IsWalk}
use Rattle.laws.proofs.Walk.{says_no, says_yes, walk_begins}
use Rattle.flow_ties.specs.Checks.{AnswersMembership, ChecksAnswerWhatIsSeen, ChecksBegin, ChecksBeginAtPlaces, ChecksHandOverWhatIsSeen, ChecksStaySeen}
use Rattle.flow_ties.proofs.Places.{asked_place, at_prefix, kept_place}
use Rattle.flow_ties.proofs.CatchUps.{HoldsOn, caught, held_longer, none_held}

module _ (fresh : Freshness) (x : Userset) (u : User) where
  longer_check : (seen longer : List Entry) (v : CheckView) → IsPrefix seen longer → IsCheckOf seen fresh x u v → IsCheckOf longer fresh x u v
  longer_check seen longer v pre was = record {
    nothing = was.nothing;
    held = λ place is.
        let it = was.held place is in record {
          there = let le = prefix_length seen longer pre in omega (arith, le, it.there);
          wanted = it.wanted;
          walk = subst (λ (there : Tuple → Bool). IsWalk there x u v.holds.walked v.holds.waiting) (at_prefix seen longer place pre it.there) it.walk;
        };
    batch = held_longer seen longer v.holds.batch pre was.batch;
    answers = λ place answer is.
        let it = was.answers place answer is in record {
          there = let le = prefix_length seen longer pre in omega (arith, le, it.there);
          wanted = it.wanted;
          member = subst (λ (there : Tuple → Bool). IsTrue answer ↔ IsMember there u x) (at_prefix seen longer place pre it.there) it.member;
        };
  }

pub checks_stay_seen : ChecksStaySeen
checks_stay_seen seen longer fresh x u v pre was = longer_check fresh x u seen longer v pre was

module _ (seen : List Entry) (fresh : Freshness) (x : Userset) (u : User) where
  abbrev Is : CheckView → Type 0
  Is v = IsCheckOf seen fresh x u v

  no_answer : AnswersMembership seen fresh x u None
  no_answer place answer none = absurd (let bad : None ≡ Some (checked place answer) = none in cc)

  -- it has its place, and holds what is of the list
  rests_at : (place : ℕ) (h : CheckHolds) (step : CheckStep) → h.place ≡ Some place → HoldsWalk seen fresh x u place h → IsHeld seen h.batch → Is (at_rest step h)
  rests_at place h step at holds batch = record {
    nothing = λ running none. absurd (let bad : None ≡ Some place = sym none ∙ at in cc);
    held = λ s is. subst (λ (n : ℕ). HoldsWalk seen fresh x u n h) (same_Some place s (sym at ∙ is)) holds;
    batch = batch;
    answers = no_answer;
  }

  -- before it has its place it holds the asked userset
  rests_nowhere : (h : CheckHolds) (step : CheckStep) → h.place ≡ None → (h.walked ≡ []) × (h.waiting ≡ x ∷ []) → IsHeld seen h.batch → Is (at_rest step h)
  rests_nowhere h step none empty batch = record {
    nothing = λ running is. empty;
    held = λ place is. absurd (let bad : None ≡ Some place = sym none ∙ is in cc);
    batch = batch;
    answers = no_answer;
  }

  is_refused : (e : Refusal) → Is (ended (refused e))
  is_refused e = record {
    nothing = λ none. absurd (let bad : Some (refused e) ≡ None = none in cc);
    held = λ place none. absurd (let bad : None ≡ Some place = none in cc);
    batch = none_held seen;
    answers = λ place answer is. absurd (let bad : Some (refused e) ≡ Some (checked place answer) = is in cc);
  }

  -- an end tells what is so
  abbrev Told : CheckEnding → Type 0
  Told (checked s other) = IsMembershipAt seen fresh x u s other
  Told (refused e) = Unit {0}

  answered : (place : ℕ) (answer : Bool) → IsMembershipAt seen fresh x u place answer → Is (ended (checked place answer))
  answered place answer is_so = record {
    nothing = λ none. absurd (let bad : Some (checked place answer) ≡ None = none in cc);
    held = λ s none. absurd (let bad : None ≡ Some s = none in cc);
    batch = none_held seen;
    answers = λ s other is.
        let same : checked place answer ≡ checked s other = same_Some (checked place answer) (checked s other) is in
        subst (λ (end : CheckEnding). Told end) same is_so;
  }

  -- it goes on to the first waiting userset, says no if there is none, or is refused
  continues : (place : ℕ) (h : CheckHolds) (after : CheckView) → h.place ≡ Some place → HoldsWalk seen fresh x u place h → IsHeld seen h.batch → Continues place h after → Is after
  continues place h after at holds batch gives = by_waiting h.waiting refl
    where
      by_waiting : (ws : List Userset) → h.waiting ≡ ws → Is after
      by_waiting [] is = subst Is (sym (gives.no is)) (answered place false (record {
        there = holds.there;
        wanted = holds.wanted;
        member = (λ yes. absurd (true≢false (sym yes)), λ m. absurd (says_no (is_at seen place) x u h holds.walk is m));
      }))
      by_waiting (y ∷ rest) is = ⊎_elim
          (λ (lt : length h.walked < max_walked). subst Is (sym (gives.more some lt)) (rests_at place h catch_up at holds batch))
          (λ (le : max_walked ≤ length h.walked). subst Is (sym (gives.full some le)) (is_refused Full))
          (cases_lt (length h.walked) max_walked)
        where
          some : h.waiting ≢ []
          some none = let bad : y ∷ rest ≡ [] = sym is ∙ none in cc

  -- what it holds when it has just found its place
  pub begins_with : (place : ℕ) (h : CheckHolds) → place ≤ length seen → IsAsAsked fresh place → (h.walked ≡ []) × (h.waiting ≡ x ∷ []) → HoldsWalk seen fresh x u place (record h { place = Some place })
  begins_with place h le wanted empty = record {
    there = le;
    wanted = wanted;
    walk = subst (λ (l : List Userset). IsWalk (is_at seen place) x u l h.waiting) (sym empty.0) (subst (λ (l : List Userset). IsWalk (is_at seen place) x u [] l) (sym empty.1) (walk_begins (is_at seen place) x u));
  }

  pub begins : (place : ℕ) (h : CheckHolds) (v : CheckView) → place ≤ length seen → IsAsAsked fresh place → (h.walked ≡ []) × (h.waiting ≡ x ∷ []) → IsHeld seen h.batch → Continues place (record h { place = Some place }) v → Is v
  begins place h v le wanted empty batch gives = continues place (record h { place = Some place }) v refl (begins_with place h le wanted empty) batch gives

  module _ (shards : ℕ) (v : CheckView) (running : v.ended ≡ None) (is : Is v) where
    by_heads : v.holds.place ≡ None → (out : CheckView) → out.holds ≡ v.holds → (r : Result HeadsValue Refusal) (after : CheckView) → IsTold shards seen (Coordinator calls.Heads) (from_coordinator (told.Heads r))
        → HeadsGive fresh out r after → Is after
    by_heads nowhere out same (Err e) after is_told gives = subst Is (sym gives) (is_refused e)
    by_heads nowhere out same (Ok known) after is_told gives = ⊎_elim
        (λ (place, found, goes). begins place v.holds after (let le = kept_place fresh known place found in omega (arith, le, is_told)) (asked_place fresh known place found) (is.nothing running nowhere) is.batch
        (subst (λ (h : CheckHolds). Continues place (record h { place = Some place }) after) same goes))
        (λ rest. ⊎_elim
        (λ later. subst Is (sym (later.1 ∙ ap (at_rest flush) same)) (rests_nowhere v.holds flush nowhere (is.nothing running nowhere) is.batch))
        (λ (e, why, is_so). subst Is (sym is_so) (is_refused e))
        rest)
        gives

    by_flush : v.holds.place ≡ None → (out : CheckView) → out.holds ≡ v.holds → (r : Result (Unit {0}) Refusal) (after : CheckView) → FlushGives out r after → Is after
    by_flush nowhere out same (Ok done) after gives = subst Is (sym (gives ∙ ap (at_rest heads) same)) (rests_nowhere v.holds heads nowhere (is.nothing running nowhere) is.batch)
    by_flush nowhere out same (Err e) after gives = subst Is (sym gives) (is_refused e)

    -- with other decisions on their way
    re_batched : (batch : Option BatchValue) (step : CheckStep) (place : ℕ) → v.holds.place ≡ Some place → IsHeld seen batch → Is (at_rest step (record v.holds { batch = batch }))
    re_batched batch step place at held = rests_at place (record v.holds { batch = batch }) step at (holds (is.held place at)) held
      where
        holds : HoldsWalk seen fresh x u place v.holds → HoldsWalk seen fresh x u place (record v.holds { batch = batch })
        holds was = record { there = was.there; wanted = was.wanted; walk = was.walk }

    by_progress : (out : CheckView) (batch : Option BatchValue) (place : ℕ) → out.holds ≡ record v.holds { batch = batch } → v.holds.place ≡ Some place
        → (progress : Progress) (after : CheckView) → HoldsOn seen progress → ProgressGives out progress after → Is after
    by_progress out batch place same at (Next c) after holds gives =
        subst Is (sym (gives ∙ ap (λ (h : CheckHolds). at_rest catch_up (record h { batch = c.batch })) same)) (re_batched c.batch catch_up place at holds)
    by_progress out batch place same at There after holds gives = ⊎_elim
        (λ reads. subst Is (sym (reads ∙ ap (λ (h : CheckHolds). at_rest read (record h { batch = None })) same)) (re_batched None read place at (none_held seen)))
        (λ none. subst Is (sym none) (is_refused NoMemory))
        gives
    by_progress out batch place same at (Refused e) after holds gives = subst Is (sym gives) (is_refused e)

    by_way : (call : NodeCall) (out : CheckView) (reply : Reply) (after : CheckView) (asks : CatchesUp shards v call out) → IsReplyTo call reply → IsTold shards seen call reply
        → ((awaited : CheckAwaited) → out.awaited ≡ Some awaited → GivesTo fresh u out awaited reply after) → Is after
    by_way call out reply after asks belongs is_told gives =
        let it : CatchUpGives out asks.out.awaited reply after = gives (catch_up_call asks.out.awaited) (ap (λ (o : CheckView). o.awaited) asks.waits) in
        let same : out.holds ≡ record v.holds { batch = asks.out.held.batch } = ap (λ (o : CheckView). o.holds) asks.waits in
        by_progress out asks.out.held.batch asks.way.to same asks.to it.progress after
        (caught shards seen asks.way asks.out it.call it.is_awaited (it.holds ∙ ap (λ (h : CheckHolds). h.batch) same) (subst (IsHeld seen) (sym asks.batch) is.batch) call reply it.progress asks.asks belongs is_told it.gives)
        it.then_gives

    -- it reads the first waiting userset, at its shard
    module _ (y : Userset) (place : ℕ) (at : v.holds.place ≡ Some place) (first : slice_get v.holds.waiting 0 ≡ Some y) where
      old : HoldsWalk seen fresh x u place v.holds
      old = is.held place at

      by_rows : (rows : List Tuple) (after : CheckView) → IsCheckSelection (is_at seen place) y u rows → RowsGive u place v.holds y rows after → Is after
      by_rows rows after selects gives = ⊎_elim
          (λ has. subst Is (sym (gives.yes has)) (answered place true (record {
            there = old.there;
            wanted = old.wanted;
            member = (λ yes. says_yes (is_at seen place) x u v.holds old.walk y (contained_from v.holds.waiting 0 y first) ((selects.exact (holding y u)).0 has).0, λ m. refl);
          })))
          (λ lacks. ⊎_elim
          (λ none. subst Is (sym none) (is_refused NoMemory))
          (λ (next, walks, walked, goes). continues place next after (walks.place ∙ at)
          (record { there = old.there; wanted = old.wanted; walk = goes_on (is_at seen place) x u v.holds old.walk next y rows walks selects lacks })
          (λ b has. is.batch b (sym walks.batch ∙ has)) goes)
          (gives.further lacks))
          (has_or_not rows (holding y u))

      abbrev s : ℕ
      s = shard_of shards y.object

      by_answer : (out : CheckView) → out.holds ≡ v.holds → (back_y : Userset) (back_u : User) (r : Result ReadReply Refusal) (after : CheckView)
          → IsTold shards seen (Shard s (shard_calls.ReadForCheck place y u)) (from_shard (told_by.ReadForCheck back_y back_u r)) → ReadGives u out r after → Is after
      by_answer out same back_y back_u (Ok (Rows rows)) after is_told gives = by_rows rows.items after
          (one_shard_is_asked shards s seen place y u rows.items refl is_told.1)
          (subst (λ (h : CheckHolds). RowsGive u place h y rows.items after) same
          (gives place y (ap (λ (h : CheckHolds). h.place) same ∙ at) (ap (λ (h : CheckHolds). slice_get h.waiting 0) same ∙ first)))
      by_answer out same back_y back_u (Ok Behind) after is_told gives =
          subst Is (sym (gives y (ap (λ (h : CheckHolds). slice_get h.waiting 0) same ∙ first) ∙ ap (at_rest catch_up) same)) (rests_at place v.holds catch_up at old is.batch)
      by_answer out same back_y back_u (Err e) after is_told gives = subst Is (sym gives) (is_refused e)

      by_read : (out : CheckView) → out.holds ≡ v.holds → (reply : Reply) (after : CheckView) → IsTold shards seen (Shard s (shard_calls.ReadForCheck place y u)) reply → GivesTo fresh u out read_call reply after → Is after
      by_read out same (from_shard (told_by.ReadForCheck back_y back_u r)) after is_told gives = by_answer out same back_y back_u r after is_told gives
      by_read out same reply after is_told gives = absurd gives

    heads_replied : v.holds.place ≡ None → (out : CheckView) → out.holds ≡ v.holds → (reply : Reply) (after : CheckView) → IsTold shards seen (Coordinator calls.Heads) reply → GivesTo fresh u out heads_call reply after → Is after
    heads_replied nowhere out same (from_coordinator (told.Heads r)) after is_told gives = by_heads nowhere out same r after is_told gives
    heads_replied nowhere out same reply after is_told gives = absurd gives

    flush_replied : v.holds.place ≡ None → (out : CheckView) → out.holds ≡ v.holds → (reply : Reply) (after : CheckView) → GivesTo fresh u out flush_call reply after → Is after
    flush_replied nowhere out same (from_coordinator (told.Flush r)) after gives = by_flush nowhere out same r after gives
    flush_replied nowhere out same reply after gives = absurd gives

    -- whichever call it makes
    by_step : (step : CheckStep) (call : NodeCall) (out : CheckView) (reply : Reply) (after : CheckView) → AsksFor step shards u v call out → IsReplyTo call reply → IsTold shards seen call reply
        → ((awaited : CheckAwaited) → out.awaited ≡ Some awaited → GivesTo fresh u out awaited reply after) → Is after
    by_step heads call out reply after asks belongs is_told gives = heads_replied asks.0 out (ap (λ (o : CheckView). o.holds) asks.2) reply after
        (subst (λ (c : NodeCall). IsTold shards seen c reply) asks.1 is_told) (gives heads_call (ap (λ (o : CheckView). o.awaited) asks.2))
    by_step flush call out reply after asks belongs is_told gives =
        flush_replied asks.0 out (ap (λ (o : CheckView). o.holds) asks.2) reply after (gives flush_call (ap (λ (o : CheckView). o.awaited) asks.2))
    by_step catch_up call out reply after asks belongs is_told gives = by_way call out reply after asks belongs is_told gives
    by_step read call out reply after asks belongs is_told gives = by_read asks.first asks.place asks.at_place asks.is_first out (ap (λ (o : CheckView). o.holds) asks.waits) reply after
        (subst (λ (c : NodeCall). IsTold shards seen c reply) asks.call_is is_told) (gives read_call (ap (λ (o : CheckView). o.awaited) asks.waits))

pub checks_begin_at_places : ChecksBeginAtPlaces
checks_begin_at_places seen fresh x u place v le wanted same = subst (IsCheckOf seen fresh x u) (sym same)
    (rests_at seen fresh x u place (record (begins_at x) { place = Some place }) catch_up refl (begins_with seen fresh x u place (begins_at x) le wanted (refl, refl)) (none_held seen))

pub checks_begin : ChecksBegin
checks_begin seen fresh x u = rests_nowhere seen fresh x u (begins_at x) heads refl (refl, refl) (none_held seen)

pub checks_answer_what_is_seen : ChecksAnswerWhatIsSeen
checks_answer_what_is_seen shards seen later fresh x u v after pre was turns =
    by_step later fresh x u shards v turns.running (longer_check fresh x u seen later v pre was) v.next turns.call turns.out turns.reply after turns.asks.asks turns.belongs turns.told turns.gives

pub checks_hand_over_what_is_seen : ChecksHandOverWhatIsSeen
checks_hand_over_what_is_seen shards s seen fresh x u v out b was asks = by_step_of v.next asks.asks
  where
    by_step_of : (step : CheckStep) → AsksFor step shards u v (Shard s (shard_calls.Learn b)) out → IsBatchOf seen b
    by_step_of heads asks_for = absurd (let bad : Shard s (shard_calls.Learn b) ≡ Coordinator calls.Heads = asks_for.1 in cc)
    by_step_of flush asks_for = absurd (let bad : Shard s (shard_calls.Learn b) ≡ Coordinator calls.Flush = asks_for.1 in cc)
    by_step_of catch_up asks_for = was.batch b (sym asks_for.batch ∙ asks_for.asks.1.0)
    by_step_of read asks_for = absurd (cc asks_for.call_is)
