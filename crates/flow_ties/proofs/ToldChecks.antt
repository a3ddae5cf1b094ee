-- A check that is refused has a reason: a reply has told it, memory is refused, the place is not there, or more usersets can be reached than it may walk.
use Rattle.std.proofs.Common.{◌≡◌, ◌≢◌, inl, inr, ⊎_elim, ◌⊎◌, ℕ, Bool, true, false, ◌≤◌, ◌<◌, List, [], ◌∷◌, ◌++◌, length, Some, None, Contains, Result, Ok, Err, slice_get, refl, sym, ◌∙◌, ap, subst, arith}
use Rattle.std.proofs.lemmas.Bool.{cases_lt}
use Rattle.flow_ties.proofs.Words.{AnyRefusal, AsksFor, at_rest, Behind, catch_up, catch_up_call, CatchesUp, CatchUpGives, CheckAwaited, checked, CheckHolds, CheckStep, CheckView, Continues, Coordinator, ended, Entry, error_of, flush, flush_call, FlushGives, Freshness, from_coordinator, from_shard, Full, GivesTo, goes_on, has_or_not, HasReason, HasTold, heads, heads_call, HeadsGive, HeadsValue, holding, HoldsWalk, IsAsAsked, IsCheckOf, IsCheckSelection, IsReplyTo, IsTold, IsTooFar, max_walked, Next, NodeCall, NoMemory, one_shard_is_asked, Progress, ProgressGives, read, read_call, ReadGives, ReadReply, Refused, refused, refused_by, Reply, Rows, RowsGive, Shard, shard_of, TellsCare, TellsReach, There, Tuple, User, Userset}
use Rattle.tuples.specs.Log.{is_at}
use Rattle.calls.specs.declared.call.CoordinatorCall.TheVariants as calls
use Rattle.calls.specs.declared.call.ShardCall.TheVariants as shard_calls
use Rattle.calls.specs.declared.reply.CoordinatorReply.TheVariants as told
use Rattle.calls.specs.declared.reply.ShardReply.TheVariants as told_by
use Rattle.answer_flow.specs.Checking.{LacksMemory}
use Rattle.laws.proofs.Walk.{all_reached, many_reached}
use Rattle.flow_ties.specs.Checks.{CheckHasReason, ChecksAtRestHaveReason, ChecksRefuseForAReason}
use Rattle.flow_ties.proofs.Places.{asked_place, kept_place}
use Rattle.flow_ties.proofs.RefusedPlaces.{is_at_node, place_refused}
use Rattle.flow_ties.proofs.SeenChecks.{begins_with}
use Rattle.flow_ties.proofs.ToldCatchUps.{call_carries}

same_refusal : (e x : AnyRefusal) → Some (refused e) ≡ Some (refused x) → e ≡ x
same_refusal e x is = cc is

module _ (fresh : Freshness) (x : Userset) (u : User) (marks : List Bool) (seen : List Entry) (low : ℕ) where
  abbrev Is : CheckView → Type 0
  Is after = CheckHasReason marks fresh seen low x after

  rests : (step : CheckStep) (h : CheckHolds) → Is (at_rest step h)
  rests step h e none = absurd (let bad : None ≡ Some (refused e) = none in cc)

  answered : (place : ℕ) (answer : Bool) → Is (ended (checked place answer))
  answered place answer e is = absurd (let bad : Some (checked place answer) ≡ Some (refused e) = is in cc)

  abbrev Reason : AnyRefusal → Type 0
  Reason e = HasReason marks fresh seen low e ⊎ ((e ≡ Full) × IsTooFar seen (IsAsAsked fresh) x)

  is_refused : (e : AnyRefusal) → Reason e → Is (ended (refused e))
  is_refused e reason other is = subst Reason (same_refusal e other is) reason

  ends_told : (e : AnyRefusal) (after : CheckView) → HasTold marks e → after ≡ ended (refused e) → Is after
  ends_told e after told_e gives = subst Is (sym gives) (is_refused e (inl (inl told_e)))

  lacks_memory : (after : CheckView) → LacksMemory after → Is after
  lacks_memory after none = subst Is (sym none) (is_refused NoMemory (inl (inr (inl refl))))

  -- all that it has met can be reached, and what waits is one more than was walked
  too_far : (place : ℕ) (h : CheckHolds) (y : Userset) → HoldsWalk seen fresh x u place h → max_walked ≤ length h.walked → Contains h.waiting y → IsTooFar seen (IsAsAsked fresh) x
  too_far place h y holds many waits = record {
    place = place;
    there = holds.there;
    wanted = holds.wanted;
    reaches = record {
      reached = h.walked ++ h.waiting;
      once = let walk = holds.walk in walk.once;
      each = all_reached (is_at seen place) x u h holds.walk;
      many = many_reached (is_at seen place) x u h holds.walk y many waits;
    };
  }

  continues : (place : ℕ) (h : CheckHolds) (after : CheckView) → HoldsWalk seen fresh x u place h → Continues place h after → Is after
  continues place h after holds gives = by_waiting h.waiting refl
    where
      by_waiting : (ws : List Userset) → h.waiting ≡ ws → Is after
      by_waiting [] is = subst Is (sym (gives.no is)) (answered place false)
      by_waiting (y ∷ rest) is = ⊎_elim
          (λ (lt : length h.walked < max_walked). subst Is (sym (gives.more some lt)) (rests catch_up h))
          (λ (many : max_walked ≤ length h.walked). subst Is (sym (gives.full some many)) (is_refused Full (inr (refl, too_far place h y holds many waits))))
          (cases_lt (length h.walked) max_walked)
        where
          some : h.waiting ≢ []
          some none = let bad : y ∷ rest ≡ [] = sym is ∙ none in cc

          waits : Contains h.waiting y
          waits = subst (λ (l : List Userset). Contains l y) (sym is) (0, omega arith, refl)

  -- what a reply carries was told
  abbrev AreTold : {T : Type 0} → Result T AnyRefusal → Type 0
  AreTold r = (e : AnyRefusal) → error_of r ≡ Some e → HasTold marks e

  abbrev IsCarried : Reply → Type 0
  IsCarried reply = (e : AnyRefusal) → refused_by reply ≡ Some e → HasTold marks e

  by_flush : (out : CheckView) (r : Result (Unit {0}) AnyRefusal) (after : CheckView) → AreTold r → FlushGives out r after → Is after
  by_flush out (Ok done) after are_told gives = subst Is (sym gives) (rests heads out.holds)
  by_flush out (Err e) after are_told gives = ends_told e after (are_told e refl) gives

  by_progress : (out : CheckView) (progress : Progress) (after : CheckView) → ((e : AnyRefusal) → progress ≡ Refused e → HasTold marks e) → ProgressGives out progress after → Is after
  by_progress out (Next c) after are_told gives = subst Is (sym gives) (rests catch_up (record out.holds { batch = c.batch }))
  by_progress out There after are_told gives = ⊎_elim
      (λ reads. subst Is (sym reads) (rests read (record out.holds { batch = None })))
      (λ none. lacks_memory after none)
      gives
  by_progress out (Refused e) after are_told gives = ends_told e after (are_told e refl) gives

  module _ (shards : ℕ) (v : CheckView) (running : v.ended ≡ None) (is : IsCheckOf seen fresh x u v) where
    by_heads : v.holds.place ≡ None → (out : CheckView) → out.holds ≡ v.holds → (r : Result HeadsValue AnyRefusal) (after : CheckView) → AreTold r → IsTold shards seen (Coordinator calls.Heads) (from_coordinator (told.Heads r))
        → TellsReach seen (Coordinator calls.Heads) (from_coordinator (told.Heads r)) → TellsCare low (Coordinator calls.Heads) (from_coordinator (told.Heads r)) → HeadsGive fresh out r after → Is after
    by_heads nowhere out same (Err e) after are_told is_told reach horizon gives = ends_told e after (are_told e refl) gives
    by_heads nowhere out same (Ok known) after are_told is_told reach horizon gives = ⊎_elim
        (λ (place, found, goes). continues place (record v.holds { place = Some place }) after
        (begins_with seen fresh x u place v.holds (let le = kept_place fresh known place found in omega (arith, le, is_told)) (asked_place fresh known place found) (is.nothing running nowhere))
        (subst (λ (h : CheckHolds). Continues place (record h { place = Some place }) after) same goes))
        (λ rest. ⊎_elim
        (λ later. subst Is (sym later.1) (rests flush out.holds))
        (λ (e, why, is_so). subst Is (sym is_so) (is_refused e (inl (inr (inr (place_refused seen low known e reach horizon fresh why))))))
        rest)
        gives

    heads_replied : v.holds.place ≡ None → (out : CheckView) → out.holds ≡ v.holds → (reply : Reply) (after : CheckView) → IsCarried reply → IsTold shards seen (Coordinator calls.Heads) reply
        → TellsReach seen (Coordinator calls.Heads) reply → TellsCare low (Coordinator calls.Heads) reply → GivesTo fresh u out heads_call reply after → Is after
    heads_replied nowhere out same (from_coordinator (told.Heads r)) after carried is_told reach horizon gives = by_heads nowhere out same r after carried is_told reach horizon gives
    heads_replied nowhere out same reply after carried is_told reach horizon gives = absurd gives

    flush_replied : (out : CheckView) (reply : Reply) (after : CheckView) → IsCarried reply → GivesTo fresh u out flush_call reply after → Is after
    flush_replied out (from_coordinator (told.Flush r)) after carried gives = by_flush out r after carried gives
    flush_replied out reply after carried gives = absurd gives

    by_way : (call : NodeCall) (out : CheckView) (reply : Reply) (after : CheckView) (asks : CatchesUp shards v call out) → IsReplyTo call reply → IsCarried reply
        → ((awaited : CheckAwaited) → out.awaited ≡ Some awaited → GivesTo fresh u out awaited reply after) → Is after
    by_way call out reply after asks belongs carried gives =
        let it : CatchUpGives out asks.out.awaited reply after = gives (catch_up_call asks.out.awaited) (ap (λ (o : CheckView). o.awaited) asks.waits) in
        by_progress out it.progress after (λ e is_e. carried e (call_carries it.call it.progress e is_e asks.way asks.out it.is_awaited call reply asks.asks belongs it.gives)) it.then_gives

    -- it reads the first waiting userset, at its shard
    module _ (y : Userset) (place : ℕ) (at : v.holds.place ≡ Some place) (first : slice_get v.holds.waiting 0 ≡ Some y) where
      met : HoldsWalk seen fresh x u place v.holds
      met = is.held place at

      by_rows : (rows : List Tuple) (after : CheckView) → IsCheckSelection (is_at seen place) y u rows → RowsGive u place v.holds y rows after → Is after
      by_rows rows after selects gives = ⊎_elim
          (λ has. subst Is (sym (gives.yes has)) (answered place true))
          (λ lacks. ⊎_elim
          (λ none. lacks_memory after none)
          (λ (next, walks, walked, goes). continues place next after
          (record { there = met.there; wanted = met.wanted; walk = goes_on (is_at seen place) x u v.holds met.walk next y rows walks selects lacks })
          goes)
          (gives.further lacks))
          (has_or_not rows (holding y u))

      abbrev s : ℕ
      s = shard_of shards y.object

      by_answer : (out : CheckView) → out.holds ≡ v.holds → (back_y : Userset) (back_u : User) (r : Result ReadReply AnyRefusal) (after : CheckView) → AreTold r
          → IsTold shards seen (Shard s (shard_calls.ReadForCheck place y u)) (from_shard (told_by.ReadForCheck back_y back_u r)) → ReadGives u out r after → Is after
      by_answer out same back_y back_u (Ok (Rows rows)) after are_told is_told gives = by_rows rows.items after
          (one_shard_is_asked shards s seen place y u rows.items refl is_told.1)
          (subst (λ (h : CheckHolds). RowsGive u place h y rows.items after) same
          (gives place y (ap (λ (h : CheckHolds). h.place) same ∙ at) (ap (λ (h : CheckHolds). slice_get h.waiting 0) same ∙ first)))
      by_answer out same back_y back_u (Ok Behind) after are_told is_told gives = subst Is (sym (gives y (ap (λ (h : CheckHolds). slice_get h.waiting 0) same ∙ first))) (rests catch_up out.holds)
      by_answer out same back_y back_u (Err e) after are_told is_told gives = ends_told e after (are_told e refl) gives

      read_replied : (out : CheckView) → out.holds ≡ v.holds → (reply : Reply) (after : CheckView) → IsCarried reply → IsTold shards seen (Shard s (shard_calls.ReadForCheck place y u)) reply → GivesTo fresh u out read_call reply after → Is after
      read_replied out same (from_shard (told_by.ReadForCheck back_y back_u r)) after carried is_told gives = by_answer out same back_y back_u r after carried is_told gives
      read_replied out same reply after carried is_told gives = absurd gives

    -- whichever call it makes
    by_step : (step : CheckStep) (call : NodeCall) (out : CheckView) (reply : Reply) (after : CheckView) → AsksFor step shards u v call out → IsReplyTo call reply → IsCarried reply → IsTold shards seen call reply
        → TellsReach seen call reply → TellsCare low call reply → ((awaited : CheckAwaited) → out.awaited ≡ Some awaited → GivesTo fresh u out awaited reply after) → Is after
    by_step heads call out reply after asks belongs carried is_told reach horizon gives = heads_replied asks.0 out (ap (λ (o : CheckView). o.holds) asks.2) reply after carried
        (subst (λ (c : NodeCall). IsTold shards seen c reply) asks.1 is_told)
        (subst (λ (c : NodeCall). TellsReach seen c reply) asks.1 reach)
        (subst (λ (c : NodeCall). TellsCare low c reply) asks.1 horizon)
        (gives heads_call (ap (λ (o : CheckView). o.awaited) asks.2))
    by_step flush call out reply after asks belongs carried is_told reach horizon gives = flush_replied out reply after carried (gives flush_call (ap (λ (o : CheckView). o.awaited) asks.2))
    by_step catch_up call out reply after asks belongs carried is_told reach horizon gives = by_way call out reply after asks belongs carried gives
    by_step read call out reply after asks belongs carried is_told reach horizon gives = read_replied asks.first asks.place asks.at_place asks.is_first out (ap (λ (o : CheckView). o.holds) asks.waits) reply after carried
        (subst (λ (c : NodeCall). IsTold shards seen c reply) asks.call_is is_told) (gives read_call (ap (λ (o : CheckView). o.awaited) asks.waits))

pub checks_at_rest_have_reason : ChecksAtRestHaveReason
checks_at_rest_have_reason fresh x marks seen low step h e none = absurd (let bad : None ≡ Some (refused e) = none in cc)

pub checks_refuse_for_a_reason : ChecksRefuseForAReason
checks_refuse_for_a_reason shards fresh x u old new seen low v out after call reply running is asks belongs is_told gives reach horizon notes =
    by_step fresh x u new seen low shards v running is v.next call out reply after asks.asks belongs (notes.carried (is_at_node shards call asks.owed)) is_told reach horizon gives
