-- A watch that is refused has a reason: a reply has told it, memory is refused, or its cursor is not there.
use Rattle.std.proofs.Common.{◌≡◌, inl, inr, ⊎_elim, ℕ, Bool, ◌+◌, List, [], Some, None, Result, Ok, Err, refl, sym, ◌∙◌, ap, subst}
use Rattle.flow_ties.proofs.Words.{batch, BatchGives, BatchValue, Coordinator, Entry, error_of, events_from, exact, from_coordinator, HasReason, HasTold, HeadsHeld, HeadsValue, heartbeat, listed, no_heads, NodeCall, NoMemory, Placed, Refusal, refused_by, Reply, Shard, TellsCare, TellsReach, waiting, WatchStep, WatchView, with_heads}
use Rattle.calls.specs.declared.call.CoordinatorCall.TheVariants as calls
use Rattle.calls.specs.declared.reply.CoordinatorReply.TheVariants as told
use Rattle.answer_flow.specs.Watching.{AsksFor, FlushGives, GivesTo, HeadsGive}
use Rattle.answer_flow.specs.WatchViews.{at_rest, ended, flush, heads, refused}
use Rattle.flow_ties.specs.Watches.{WatchHasReason, WatchesAtRestHaveReason, WatchesRefuseForAReason}
use Rattle.flow_ties.proofs.RefusedPlaces.{is_at_node, place_refused}

same_refusal : (e x : Refusal) → Some (refused e) ≡ Some (refused x) → e ≡ x
same_refusal e x is = cc is

module _ (cursor limit : ℕ) (names : List (List ℕ)) (marks : List Bool) (seen : List Entry) (low : ℕ) where
  abbrev Is : WatchView → Type 0
  Is after = WatchHasReason marks cursor seen low after

  rests : (step : WatchStep) (h : HeadsHeld) → Is (at_rest step h)
  rests step h e none = absurd (let bad : None ≡ Some (refused e) = none in cc)

  lists : (place : ℕ) (changes : List Placed) → Is (ended (listed place changes))
  lists place changes e is = absurd (let bad : Some (listed place changes) ≡ Some (refused e) = is in cc)

  is_refused : (e : Refusal) → HasReason marks (exact cursor) seen low e → Is (ended (refused e))
  is_refused e reason x is = subst (HasReason marks (exact cursor) seen low) (same_refusal e x is) reason

  ends_told : (e : Refusal) (after : WatchView) → HasTold marks e → after ≡ ended (refused e) → Is after
  ends_told e after told_e gives = subst Is (sym gives) (is_refused e (inl told_e))

  -- what a reply carries was told
  abbrev AreTold : {T : Type 0} → Result T Refusal → Type 0
  AreTold r = (e : Refusal) → error_of r ≡ Some e → HasTold marks e

  by_heads : (r : Result HeadsValue Refusal) (after : WatchView) → AreTold r → TellsReach seen (Coordinator calls.Heads) (from_coordinator (told.Heads r)) → TellsCare low (Coordinator calls.Heads) (from_coordinator (told.Heads r))
      → HeadsGive cursor r after → Is after
  by_heads (Err e) after are_told reach horizon gives = ends_told e after (are_told e refl) gives
  by_heads (Ok v) after are_told reach horizon gives = ⊎_elim
      (λ found. subst Is (sym found.1) (rests batch (with_heads v)))
      (λ rest. ⊎_elim
      (λ later. subst Is (sym later.1) (rests flush no_heads))
      (λ (e, why, is_so). subst Is (sym is_so) (is_refused e (inr (inr (place_refused seen low v e reach horizon (exact cursor) why)))))
      rest)
      gives

  by_flush : (r : Result (Unit {0}) Refusal) (after : WatchView) → AreTold r → FlushGives r after → Is after
  by_flush (Ok done) after are_told gives = subst Is (sym gives) (rests heads no_heads)
  by_flush (Err e) after are_told gives = ends_told e after (are_told e refl) gives

  by_batch : (out : WatchView) (h : HeadsValue) → out.holds ≡ with_heads h → (r : Result BatchValue Refusal) (after : WatchView) → AreTold r → BatchGives cursor limit names out r after → Is after
  by_batch out h has (Ok b) after are_told gives = ⊎_elim
      (λ lists_all. subst Is (sym (lists_all h has)) (lists (heartbeat cursor limit h) (events_from (b.from + 1) names b.writes)))
      (λ none. subst Is (sym none) (is_refused NoMemory (inr (inl refl))))
      gives
  by_batch out h has (Err e) after are_told gives = ends_told e after (are_told e refl) gives

  abbrev IsCarried : Reply → Type 0
  IsCarried reply = (e : Refusal) → refused_by reply ≡ Some e → HasTold marks e

  heads_replied : (out : WatchView) (reply : Reply) (after : WatchView) → IsCarried reply → TellsReach seen (Coordinator calls.Heads) reply → TellsCare low (Coordinator calls.Heads) reply → GivesTo cursor limit names out heads reply after → Is after
  heads_replied out (from_coordinator (told.Heads r)) after carried reach horizon gives = by_heads r after carried reach horizon gives
  heads_replied out reply after carried reach horizon gives = absurd gives

  flush_replied : (out : WatchView) (reply : Reply) (after : WatchView) → IsCarried reply → GivesTo cursor limit names out flush reply after → Is after
  flush_replied out (from_coordinator (told.Flush r)) after carried gives = by_flush r after carried gives
  flush_replied out reply after carried gives = absurd gives

  batch_replied : (out : WatchView) (h : HeadsValue) → out.holds ≡ with_heads h → (reply : Reply) (after : WatchView) → IsCarried reply → GivesTo cursor limit names out batch reply after → Is after
  batch_replied out h has (from_coordinator (told.Batch r)) after carried gives = by_batch out h has r after carried gives
  batch_replied out h has reply after carried gives = absurd gives

  by_call : (v out : WatchView) (call : NodeCall) (reply : Reply) (after : WatchView) → AsksFor cursor limit v call → out ≡ waiting v.next v.holds → IsCarried reply → TellsReach seen call reply → TellsCare low call reply
      → ((awaited : WatchStep) → out.awaited ≡ Some awaited → GivesTo cursor limit names out awaited reply after) → Is after
  by_call v out (Coordinator calls.Heads) reply after asks waits carried reach horizon gives = heads_replied out reply after carried reach horizon (gives heads (ap (λ (o : WatchView). o.awaited) waits ∙ ap (λ (c : WatchStep). Some c) asks))
  by_call v out (Coordinator calls.Flush) reply after asks waits carried reach horizon gives = flush_replied out reply after carried (gives flush (ap (λ (o : WatchView). o.awaited) waits ∙ ap (λ (c : WatchStep). Some c) asks))
  by_call v out (Coordinator (calls.Batch from to)) reply after asks waits carried reach horizon gives =
      let (h, has, from_is, to_is) = asks.1 in
      batch_replied out h (ap (λ (o : WatchView). o.holds) waits ∙ has) reply after carried (gives batch (ap (λ (o : WatchView). o.awaited) waits ∙ ap (λ (c : WatchStep). Some c) asks.0))
  by_call v out (Coordinator call) reply after asks waits carried reach horizon gives = absurd asks
  by_call v out (Shard s call) reply after asks waits carried reach horizon gives = absurd asks

pub watches_at_rest_have_reason : WatchesAtRestHaveReason
watches_at_rest_have_reason cursor marks seen low step h = rests cursor 0 [] marks seen low step h

pub watches_refuse_for_a_reason : WatchesRefuseForAReason
watches_refuse_for_a_reason shards cursor limit names old new seen low v out after call reply asks belongs gives reach horizon notes =
    by_call cursor limit names new seen low v out call reply after asks.asks asks.out (notes.carried (is_at_node shards call (asks.owed shards))) reach horizon gives
