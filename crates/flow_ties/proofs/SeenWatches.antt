-- What a watch holds is of the list that was seen, from its beginning to what it lists.
use Rattle.std.proofs.Common.{◌≡◌, ◌⊎◌, inl, inr, ⊎_elim, ℕ, ◌≤◌, ◌<◌, ◌+◌, ◌-◌, List, length, take, drop, Some, None, Result, Ok, Err, sym, ◌∙◌, ap, subst, arith}
use Rattle.std.proofs.lemmas.Bool.{cases_lt}
use Rattle.std.proofs.lemmas.Option.{same_Some}
use Rattle.flow_ties.proofs.Words.{AreEventsTo, AreOfLog, batch, BatchGives, BatchValue, Coordinator, Entry, events_from, from_coordinator, HeadsHeld, HeadsValue, heartbeat, IsTold, listed, no_heads, NodeCall, NoMemory, Placed, Refusal, Reply, Shard, waiting, WatchStep, WatchView, with_heads}
use Rattle.tuples.specs.Limits.{max_watched}
use Rattle.tuples.specs.Watching.{events}
use Rattle.tuples.proofs.Lists.{prefix_length}
use Rattle.calls.specs.declared.call.CoordinatorCall.TheVariants as calls
use Rattle.calls.specs.declared.reply.CoordinatorReply.TheVariants as told
use Rattle.answer_flow.specs.Watching.{AsksFor, FlushGives, GivesTo, HeadsGive}
use Rattle.answer_flow.specs.WatchViews.{WatchEnding, at_rest, ended, flush, heads, refused}
use Rattle.flow_ties.specs.Watches.{AreHeadsOf, IsWatchOf, TellsWatcher, WatchesBegin, WatchesListWhatIsSeen, WatchesStaySeen}

module _ (cursor limit : ℕ) (names : List (List ℕ)) (before shards : ℕ) (seen : List Entry) where
  abbrev Is : WatchView → Type 0
  Is v = IsWatchOf cursor limit names before seen v

  rests : (step : WatchStep) → Is (at_rest step no_heads)
  rests step = record {
    heads = λ h none. absurd (let bad : None ≡ Some h = none in cc);
    lists = λ place changes none. absurd (let bad : None ≡ Some (listed place changes) = none in cc);
  }

  rests_with : (v : HeadsValue) → AreHeadsOf cursor limit names before seen v → Is (at_rest batch (with_heads v))
  rests_with v are = record {
    heads = λ h is. subst (AreHeadsOf cursor limit names before seen) (same_Some v h is) are;
    lists = λ place changes none. absurd (let bad : None ≡ Some (listed place changes) = none in cc);
  }

  is_refused : (e : Refusal) → Is (ended (refused e))
  is_refused e = record {
    heads = λ h none. absurd (let bad : None ≡ Some h = none in cc);
    lists = λ place changes is. absurd (let bad : Some (refused e) ≡ Some (listed place changes) = is in cc);
  }

  -- an end tells what is so
  abbrev Tells : WatchEnding → Type 0
  Tells (listed place changes) = AreEventsTo cursor limit names before seen place changes
  Tells (refused e) = Unit {0}

  lists_all : (place : ℕ) (changes : List Placed) → AreEventsTo cursor limit names before seen place changes → Is (ended (listed place changes))
  lists_all place changes are = record {
    heads = λ h none. absurd (let bad : None ≡ Some h = none in cc);
    lists = λ other others is. subst Tells (same_Some (listed place changes) (listed other others) is) are;
  }

  by_heads : (r : Result HeadsValue Refusal) (after : WatchView) → IsTold shards seen (Coordinator calls.Heads) (from_coordinator (told.Heads r)) → TellsWatcher before (Coordinator calls.Heads) (from_coordinator (told.Heads r))
      → HeadsGive cursor r after → Is after
  by_heads (Err e) after is_told tells gives = subst Is (sym gives) (is_refused e)
  by_heads (Ok v) after is_told tells gives = ⊎_elim
      (λ found. subst Is (sym found.1) (rests_with v (record { kept = is_told; new = tells; behind = let low = found.0.1 in omega (arith, low) })))
      (λ rest. ⊎_elim
      (λ later. subst Is (sym later.1) (rests flush))
      (λ (e, why, is_so). subst Is (sym is_so) (is_refused e))
      rest)
      gives

  by_flush : (r : Result (Unit {0}) Refusal) (after : WatchView) → FlushGives r after → Is after
  by_flush (Ok done) after gives = subst Is (sym gives) (rests heads)
  by_flush (Err e) after gives = subst Is (sym gives) (is_refused e)

  -- a part of the list after the cursor, up to a place, is what there is to list
  are_events : (place : ℕ) (b : BatchValue) → b.from ≡ cursor → length b.writes ≡ place - cursor → AreOfLog seen b.from b.writes → events_from (b.from + 1) names b.writes ≡ events seen cursor place names
  unfolding events
  are_events place b from_is size of_list =
      ap (λ (n : ℕ). events_from (n + 1) names b.writes) from_is
      ∙ ap (events_from (cursor + 1) names) (of_list ∙ ap (λ (n : ℕ). take (length b.writes) (drop n seen)) from_is ∙ ap (λ (n : ℕ). take n (drop cursor seen)) size)

  far_enough : (h : HeadsValue) → AreHeadsOf cursor limit names before seen h → (heartbeat cursor limit h ≡ cursor + limit) ⊎ (before ≤ heartbeat cursor limit h)
  far_enough h are = ⊎_elim
      (λ (lt : h.kept < cursor + limit). inr (let new = are.new in omega (arith, lt, new)))
      (λ (le : cursor + limit ≤ h.kept). inl (omega (arith, le)))
      (cases_lt h.kept (cursor + limit))

  by_batch : (v : WatchView) (h : HeadsValue) (from to : ℕ) (r : Result BatchValue Refusal) (after : WatchView) → limit ≤ max_watched → v.holds ≡ with_heads h → AreHeadsOf cursor limit names before seen h
      → from ≡ cursor → to ≡ heartbeat cursor limit h → IsTold shards seen (Coordinator (calls.Batch from to)) (from_coordinator (told.Batch r)) → TellsWatcher before (Coordinator (calls.Batch from to)) (from_coordinator (told.Batch r))
      → BatchGives cursor limit names v r after → Is after
  by_batch v h from to (Err e) after few has are from_is to_is is_told tells gives = subst Is (sym gives) (is_refused e)
  by_batch v h from to (Ok b) after few has are from_is to_is is_told tells gives = ⊎_elim
      (λ lists. subst Is (sym (lists h has)) (lists_all place (events_from (b.from + 1) names b.writes) (record {
        there = let kept = are.kept in omega (arith, kept);
        behind = low;
        within = omega arith;
        far = far_enough h are;
        all = are_events place b (tells.0 ∙ from_is) (size ∙ ap (λ (n : ℕ). n - from) to_is ∙ ap (λ (n : ℕ). place - n) from_is) is_told.of_list;
      })))
      (λ none. subst Is (sym none) (is_refused NoMemory))
      gives
    where
      place : ℕ
      place = heartbeat cursor limit h

      low : cursor ≤ place
      low = let behind = are.behind in omega (arith, behind)

      size : length b.writes ≡ to - from
      size = tells.1 (omega (arith, few, from_is, to_is)) (omega (arith, low, from_is, to_is))

  heads_replied : (out : WatchView) (reply : Reply) (after : WatchView) → IsTold shards seen (Coordinator calls.Heads) reply → TellsWatcher before (Coordinator calls.Heads) reply → GivesTo cursor limit names out heads reply after → Is after
  heads_replied out (from_coordinator (told.Heads r)) after is_told tells gives = by_heads r after is_told tells gives
  heads_replied out reply after is_told tells gives = absurd gives

  flush_replied : (out : WatchView) (reply : Reply) (after : WatchView) → GivesTo cursor limit names out flush reply after → Is after
  flush_replied out (from_coordinator (told.Flush r)) after gives = by_flush r after gives
  flush_replied out reply after gives = absurd gives

  batch_replied : (out : WatchView) (h : HeadsValue) (from to : ℕ) (reply : Reply) (after : WatchView) → limit ≤ max_watched → out.holds ≡ with_heads h → AreHeadsOf cursor limit names before seen h → from ≡ cursor → to ≡ heartbeat cursor limit h
      → IsTold shards seen (Coordinator (calls.Batch from to)) reply → TellsWatcher before (Coordinator (calls.Batch from to)) reply → GivesTo cursor limit names out batch reply after → Is after
  batch_replied out h from to (from_coordinator (told.Batch r)) after few has are from_is to_is is_told tells gives = by_batch out h from to r after few has are from_is to_is is_told tells gives
  batch_replied out h from to reply after few has are from_is to_is is_told tells gives = absurd gives

  by_call : (v out : WatchView) (call : NodeCall) (reply : Reply) (after : WatchView) → limit ≤ max_watched → Is v → AsksFor cursor limit v call → out ≡ waiting v.next v.holds → IsTold shards seen call reply → TellsWatcher before call reply
      → ((awaited : WatchStep) → out.awaited ≡ Some awaited → GivesTo cursor limit names out awaited reply after) → Is after
  by_call v out (Coordinator calls.Heads) reply after few is asks waits is_told tells gives = heads_replied out reply after is_told tells (gives heads (ap (λ (o : WatchView). o.awaited) waits ∙ ap (λ (c : WatchStep). Some c) asks))
  by_call v out (Coordinator calls.Flush) reply after few is asks waits is_told tells gives = flush_replied out reply after (gives flush (ap (λ (o : WatchView). o.awaited) waits ∙ ap (λ (c : WatchStep). Some c) asks))
  by_call v out (Coordinator (calls.Batch from to)) reply after few is asks waits is_told tells gives =
      let (h, has, from_is, to_is) = asks.1 in
      batch_replied out h from to reply after few (ap (λ (o : WatchView). o.holds) waits ∙ has) (is.heads h (ap (λ (k : HeadsHeld). k.heads) has)) from_is to_is is_told tells
      (gives batch (ap (λ (o : WatchView). o.awaited) waits ∙ ap (λ (c : WatchStep). Some c) asks.0))
  by_call v out (Coordinator call) reply after few is asks waits is_told tells gives = absurd asks
  by_call v out (Shard s call) reply after few is asks waits is_told tells gives = absurd asks

pub watches_begin : WatchesBegin
watches_begin cursor limit names before seen = rests cursor limit names before 0 seen heads

pub watches_stay_seen : WatchesStaySeen
watches_stay_seen cursor limit names before seen longer v pre runs was = record {
  heads = λ h is. let it = was.heads h is in record { kept = let le = prefix_length seen longer pre in let kept = it.kept in omega (arith, le, kept); new = it.new; behind = it.behind };
  lists = λ place changes is. absurd (let bad : None ≡ Some (listed place changes) = sym runs ∙ is in cc);
}

pub watches_list_what_is_seen : WatchesListWhatIsSeen
watches_list_what_is_seen cursor limit names before shards seen later v after few pre was turns =
    by_call cursor limit names before shards later v turns.out turns.call turns.reply after few (watches_stay_seen cursor limit names before seen later v pre turns.running was) turns.asks.asks turns.asks.out turns.told turns.tells turns.gives
