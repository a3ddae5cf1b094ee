-- What a care holds is of the list and of the horizon that were seen.
use Rattle.std.proofs.Common.{◌≡◌, inl, inr, ⊎_elim, ℕ, ◌≤◌, ◌<◌, ◌+◌, Bool, true, false, List, [], ◌∷◌, ◌++◌, length, Option, Some, None, Result, Ok, Err, slice_get, refl, sym, ◌∙◌, ap, subst, arith}
use Rattle.std.specs.Global.{Vec}
use Rattle.std.specs.Prelude.{MatchOption}
use Rattle.std.proofs.lemmas.Bool.{cases_Bool, cases_eq, cases_lt}
use Rattle.std.proofs.lemmas.Option.{same_Some}
use Rattle.flow_ties.proofs.Words.{Awaited, BatchValue, CatchUpValue, Commit, Coordinator, Entry, from_coordinator, from_shard, Future, HeadsHeld, HeadsValue, Inquiry, IsBatchOf, IsHeld, IsReplyTo, IsTold, Next, NodeCall, NoMemory, Progress, Refusal, Refused, Reply, Shard, TellsCare, There, Undecided, WriteId}
use Rattle.decisions.specs.Flows.{RaiseHolds, ResolveHolds, undecided}
use Rattle.decisions.specs.Values.{SettledValue}
use Rattle.coordinator.specs.declared.raising.NotRaised.{NotRaised}
use Rattle.coordinator.specs.declared.telling.Inquiry.TheVariants.{Abort}
use Rattle.names.specs.declared.care.Care.TheVariants as cares
use Rattle.names.specs.declared.node_name.NodeName.{NodeName}
use Rattle.names.specs.declared.node_name.NodeName.TheVariants as named
use Rattle.calls.specs.Names.{name_of}
use Rattle.calls.specs.declared.call.CoordinatorCall.TheVariants as calls
use Rattle.calls.specs.declared.call.ShardCall.TheVariants as shard_calls
use Rattle.calls.specs.declared.reply.CoordinatorReply.TheVariants as told
use Rattle.calls.specs.declared.reply.ShardReply.TheVariants as told_by
use Rattle.catch_up.specs.CatchingUp as catching
use Rattle.care_flow.specs.declared.care.CareFlow.{CareFlow}
use Rattle.care_flow.specs.declared.care.CareFlow.TheVariants.{Collect, Flush, Learn, Raise, Resolve}
use Rattle.care_flow.specs.Cares.{Answered, NextCall}
use Rattle.care_flow.specs.CatchUps.{AsksToCatchUp, on_its_way}
use Rattle.care_flow.specs.Collecting as collecting
use Rattle.care_flow.specs.Flushing as flushing
use Rattle.care_flow.specs.Learning as learning
use Rattle.care_flow.specs.Raising as raising
use Rattle.care_flow.specs.Resolving as resolving
use Rattle.care_flow.specs.Views.{out, ready}
use Rattle.flow_ties.specs.Cares.{CaresBegin, CaresGoOn, CaresHandOverWhatIsSeen, CaresStaySeen, IsCareOf, on_the_way}
use Rattle.flow_ties.proofs.CatchUps.{HoldsOn, caught, handed_over, held_longer, none_held}
use Rattle.refusal.proofs.Cases.{is_full}

-- what is said of an option that is not empty is said of its value
some_of : {X : Type 0} (P : X → Type 0) (o : Option X) → MatchOption o ⊥ P → (x : X) × (o ≡ Some x) × P x
some_of P None none = absurd none
some_of P (Some x) it = (x, refl, it)

pub cares_begin : CaresBegin
cares_begin shards (cares.Flush n) seen low = record { batch = none_held seen; heads = λ h none. absurd (let bad : None ≡ Some h = none in cc) }
cares_begin shards (cares.Checkpoint n) seen low = record { batch = none_held seen; heads = λ h none. absurd (let bad : None ≡ Some h = none in cc) }
cares_begin shards (cares.Learn s) seen low = record { batch = none_held seen; heads = λ h none. absurd (let bad : None ≡ Some h = none in cc) }
cares_begin shards (cares.Resolve s) seen low = record { batch = none_held seen; heads = λ h none. absurd (let bad : None ≡ Some h = none in cc) }
cares_begin shards (cares.Raise place) seen low = record { batch = none_held seen; heads = λ h none. absurd (let bad : None ≡ Some h = none in cc) }
cares_begin shards (cares.Collect s) seen low = record { batch = none_held seen; heads = λ h none. absurd (let bad : None ≡ Some h = none in cc) }

pub cares_stay_seen : CaresStaySeen
cares_stay_seen seen longer low later v pre le was = record {
  batch = held_longer seen longer (on_the_way v) pre was.batch;
  heads = λ h is. let low_enough = was.heads h is in omega (arith, le, low_enough);
}

-- A care that brings a shard up to a place.
module _ (shards : ℕ) (seen : List Entry) where
  -- its call, and what is held while that is out
  asked_for : (v : CatchUpValue) (call : NodeCall) (P : Option BatchValue → Awaited → Type 0) (s : ℕ) (b : BatchValue) → IsHeld seen v.batch → call ≡ Shard s (shard_calls.Learn b) → AsksToCatchUp v call P → IsBatchOf seen b
  asked_for v call P s b held is asks = handed_over seen (record v { next = name_of call; from = asks.1.0; flushed = asks.1.1 }) s b asks.0 held (subst (λ (c : NodeCall). catching.Asks (record v { next = name_of call; from = asks.1.0; flushed = asks.1.1 }) c asks.0) is asks.1.2)

  -- what the reply leaves on its way
  caught_up : (v : CatchUpValue) (call : NodeCall) (reply : Reply) (P : Option BatchValue → Awaited → Type 0) (asks : AsksToCatchUp v call P) (w : CatchUpValue) (awaited : Awaited) (progress : Progress)
      → awaited ≡ asks.0.awaited → w.batch ≡ asks.0.held.batch → IsHeld seen v.batch → IsReplyTo call reply → IsTold shards seen call reply → catching.Gives (record { held = w; awaited = awaited }) reply progress → HoldsOn seen progress
  caught_up v call reply P asks w awaited progress awaited_is batch_is held belongs is_told gives =
      caught shards seen (record v { next = name_of call; from = asks.1.0; flushed = asks.1.1 }) asks.0 (record { held = w; awaited = awaited }) awaited_is batch_is held call reply progress asks.1.2 belongs is_told gives

  -- it learns
  module _ (s : ℕ) where
    abbrev Held : learning.LearnView → Type 0
    Held v = IsHeld seen v.holds.batch

    learn_progress : (h : HeadsHeld) (progress : Progress) (after : learning.LearnView) → HoldsOn seen progress → learning.ProgressGives h progress after → Held after
    learn_progress h (Next c) after on gives = subst Held (sym gives) on
    learn_progress h There after on gives = subst Held (sym gives) (none_held seen)
    learn_progress h (Refused e) after on gives = subst Held (sym gives) (none_held seen)

    learn_heads : (h : HeadsHeld) (r : Result HeadsValue Refusal) (after : learning.LearnView) → IsHeld seen h.batch → learning.HeadsGive h r after → Held after
    learn_heads h (Ok heads) after held gives = subst Held (sym gives) held
    learn_heads h (Err e) after held gives = subst Held (sym gives) (none_held seen)

    learns : (h : HeadsHeld) (step : learning.LearnStep) (call : NodeCall) (reply : Reply) (middle after : learning.LearnView) → IsHeld seen h.batch → learning.Asks s h step call middle
        → IsReplyTo call reply → IsTold shards seen call reply → MatchOption middle.awaited ⊥ (λ x. learning.Gives s middle.holds x reply after) → Held after
    learns h learning.ask call reply middle after held asks belongs is_told gives = by_heads reply (subst (λ (m : learning.LearnView). MatchOption m.awaited ⊥ (λ x. learning.Gives s m.holds x reply after)) asks.1 gives)
      where
        by_heads : (it : Reply) → learning.Gives s h learning.ask it after → Held after
        by_heads (from_coordinator (told.Heads r)) given = learn_heads h r after held given
        by_heads it given = absurd given
    learns h (learning.catch_up is_out) call reply middle after held asks belongs is_told gives =
        let (heads, has, way) = some_of _ h.heads asks in
        let given = subst (λ (m : learning.LearnView). MatchOption m.awaited ⊥ (λ x. learning.Gives s m.holds x reply after)) way.2 gives in
        let (other, has_other, it) = some_of _ h.heads given in
        learn_progress (record h { batch = way.0.held.batch }) it.0 after
        (caught_up (on_its_way s heads.kept h.batch) call reply _ way (on_its_way s other.kept way.0.held.batch) way.0.awaited it.0 refl refl held belongs is_told it.1) it.2

  -- it finds out what became of the writes in doubt
  module _ (s : ℕ) (doubts : List WriteId) where
    abbrev Found : resolving.ResolveView → Type 0
    Found v = IsHeld seen v.holds.batch

    goes_through : (all : List WriteId) (h : ResolveHolds) (after : resolving.ResolveView) → IsHeld seen h.batch → resolving.GoesThrough all h after → Found after
    goes_through all h after held gives = by_next (slice_get all (length h.found)) gives
      where
        by_next : (next : Option WriteId) → MatchOption next (resolving.EndsResolved h after) (λ id. after ≡ ready h (resolving.inquire id)) → Found after
        by_next None ends = subst Found (sym ends.2) held
        by_next (Some id) goes = subst Found (sym goes) held

    resolve_progress : (h : ResolveHolds) (to : ℕ) (progress : Progress) (after : resolving.ResolveView) → HoldsOn seen progress → resolving.ProgressGives doubts h to progress after → Found after
    resolve_progress h to (Next c) after on gives = subst Found (sym gives) on
    resolve_progress h to There after on gives = goes_through doubts (record h { batch = None }) after (none_held seen) gives
    resolve_progress h to (Refused e) after on gives = subst Found (sym gives) (none_held seen)

    resolve_inquiry : (h : ResolveHolds) (id : WriteId) (r : Result Inquiry Refusal) (after : resolving.ResolveView) → IsHeld seen h.batch → resolving.InquiryGives doubts h id r after → Found after
    resolve_inquiry h id (Ok (Commit place)) after held gives = subst Found (sym gives) held
    resolve_inquiry h id (Ok (Abort verdict)) after held gives = subst Found (sym gives) held
    resolve_inquiry h id (Ok Undecided) after held gives = goes_through doubts (resolving.finding (undecided id) None h) after held gives
    resolve_inquiry h id (Err e) after held gives = subst Found (sym gives) held

    resolves : (h : ResolveHolds) (step : resolving.ResolveStep) (call : NodeCall) (reply : Reply) (middle after : resolving.ResolveView) (ids : List WriteId) → IsHeld seen h.batch → resolving.Asks s h step call middle
        → IsReplyTo call reply → IsTold shards seen call reply → MatchOption middle.awaited ⊥ (λ x. resolving.Gives s doubts middle.holds x reply ids after) → Found after
    resolves h resolving.in_doubt call reply middle after ids held asks belongs is_told gives = by_reply reply (subst (λ (m : resolving.ResolveView). MatchOption m.awaited ⊥ (λ x. resolving.Gives s doubts m.holds x reply ids after)) asks.1 gives)
      where
        by_doubts : (r : Result (Vec WriteId) Refusal) → resolving.DoubtsGive h r ids after → Found after
        by_doubts (Ok found) given = ⊎_elim
            (λ goes. goes_through ids h after held goes.1)
            (λ none. subst Found (sym none) held)
            given
        by_doubts (Err e) given = subst Found (sym given) held

        by_reply : (it : Reply) → resolving.Gives s doubts h resolving.in_doubt it ids after → Found after
        by_reply (from_shard (told_by.InDoubt r)) given = by_doubts r given
        by_reply it given = absurd given
    resolves h (resolving.inquire id) call reply middle after ids held asks belongs is_told gives = by_reply reply (subst (λ (m : resolving.ResolveView). MatchOption m.awaited ⊥ (λ x. resolving.Gives s doubts m.holds x reply ids after)) asks.1 gives)
      where
        by_reply : (it : Reply) → resolving.Gives s doubts h (resolving.inquire id) it ids after → Found after
        by_reply (from_coordinator (told.Inquire r)) given = resolve_inquiry h id r after held given.1
        by_reply it given = absurd given
    resolves h (resolving.catch_up to is_out) call reply middle after ids held asks belongs is_told gives =
        let way = asks.1 in
        let given = subst (λ (m : resolving.ResolveView). MatchOption m.awaited ⊥ (λ x. resolving.Gives s doubts m.holds x reply ids after)) way.2 gives in
        let it = given.1 in
        resolve_progress (record h { batch = way.0.held.batch }) to it.0 after
        (caught_up (on_its_way s to h.batch) call reply _ way (on_its_way s to way.0.held.batch) way.0.awaited it.0 refl refl held belongs is_told it.1) it.2
    resolves h resolving.drop_write call reply middle after ids held asks belongs is_told gives = by_reply reply (subst (λ (m : resolving.ResolveView). MatchOption m.awaited ⊥ (λ x. resolving.Gives s doubts m.holds x reply ids after)) asks.3 gives)
      where
        by_drop : (r : Result (Unit {0}) Refusal) → resolving.DropGives doubts (record h { verdict = None }) r after → Found after
        by_drop (Ok done) given = goes_through doubts (record h { verdict = None }) after held given
        by_drop (Err e) given = subst Found (sym given) held

        by_reply : (it : Reply) → resolving.Gives s doubts (record h { verdict = None }) resolving.drop_write it ids after → Found after
        by_reply (from_shard (told_by.DropWrite verdict r)) given = by_drop r given.1
        by_reply it given = absurd given

  -- it raises the horizon
  module _ (count place : ℕ) where
    abbrev Raised : raising.RaiseView → Type 0
    Raised v = IsHeld seen v.holds.batch

    goes_round : (h : RaiseHolds) (s : ℕ) (after : raising.RaiseView) → IsHeld seen h.batch → raising.GoesRound count h s after → Raised after
    goes_round h s after held gives = ⊎_elim
        (λ (lt : s < count). subst Raised (sym (gives.0 lt)) held)
        (λ (le : count ≤ s). subst Raised (sym (gives.1 le)) held)
        (cases_lt s count)

    raise_refused : (e : Refusal) (after : raising.RaiseView) → raising.EndsRefused e after → Raised after
    raise_refused e after gives = subst Raised (sym gives) (none_held seen)

    raise_heads : (h : RaiseHolds) (r : Result HeadsValue Refusal) (after : raising.RaiseView) → IsHeld seen h.batch → raising.HeadsGive count place h r after → Raised after
    raise_heads h (Err e) after held gives = raise_refused e after gives
    raise_heads h (Ok heads) after held gives = ⊎_elim
        (λ (lt : heads.kept < place). ⊎_elim
        (λ (none : heads.length < place). raise_refused Future after (gives.above lt none))
        (λ (le : place ≤ heads.length). subst Raised (sym (gives.staged lt le)) held)
        (cases_lt heads.length place))
        (λ (le : place ≤ heads.kept). ⊎_elim
        (λ goes. goes_round (record h { heads = Some heads }) 0 after held goes)
        (λ none. raise_refused NoMemory after none)
        (gives.reaches le))
        (cases_lt heads.kept place)

    raise_flush : (r : Result (Unit {0}) Refusal) (behind after : raising.RaiseView) → Raised behind → raising.FlushGives r behind after → Raised after
    raise_flush (Ok done) behind after held gives = subst Raised (sym gives) held
    raise_flush (Err e) behind after held gives = raise_refused e after gives

    raise_progress : (h : RaiseHolds) (s : ℕ) (progress : Progress) (after : raising.RaiseView) → HoldsOn seen progress → raising.ProgressGives h s progress after → Raised after
    raise_progress h s (Next c) after on gives = subst Raised (sym gives) on
    raise_progress h s There after on gives = subst Raised (sym gives) (none_held seen)
    raise_progress h s (Refused e) after on gives = raise_refused e after gives

    raise_settle : (h : RaiseHolds) (s : ℕ) (r : Result SettledValue Refusal) (after : raising.RaiseView) → IsHeld seen h.batch → raising.SettleGives count place h s r after → Raised after
    raise_settle h s (Err e) after held gives = raise_refused e after gives
    raise_settle h s (Ok v) after held gives = ⊎_elim
        (λ same. ⊎_elim
        (λ (lt : v.place < place). subst Raised (sym (gives.1 (inr lt))) held)
        (λ (le : place ≤ v.place). goes_round (record h { settled = h.settled ++ v ∷ [] }) (s + 1) after held (gives.0 same le))
        (cases_lt v.place place))
        (λ other. subst Raised (sym (gives.1 (inl other))) held)
        (cases_eq v.shard s)

    raise_raise : (h : RaiseHolds) (again : Bool) (r : Result (Unit {0}) NotRaised) (after : raising.RaiseView) → IsHeld seen h.batch → raising.RaiseGives h again r after → Raised after
    raise_raise h again (Ok done) after held gives = subst Raised (sym gives) held
    raise_raise h again (Err back) after held gives = ⊎_elim
        (λ full. ⊎_elim
        (λ twice. raise_refused back.refusal after (gives.1 (inr twice)))
        (λ once. subst Raised (sym (gives.0 full once)) held)
        (cases_Bool again))
        (λ other. raise_refused back.refusal after (gives.1 (inl other)))
        (is_full back.refusal)

    -- the reply to the call that is out
    raise_replied : (h : RaiseHolds) (step : raising.RaiseStep) (reply : Reply) (after : raising.RaiseView) → IsHeld seen h.batch
        → ((s : ℕ) (awaited : Option Awaited) → step ≡ raising.catch_up s awaited → Raised after) → raising.Gives count place h step reply after → Raised after
    raise_replied h raising.ask (from_coordinator (told.Heads r)) after held way gives = raise_heads h r after held gives
    raise_replied h raising.flush_to_ask (from_coordinator (told.Flush r)) after held way gives = raise_flush r (ready h raising.ask) after held gives
    raise_replied h (raising.catch_up s awaited) reply after held way gives = way s awaited refl
    raise_replied h (raising.flush s) (from_shard (told_by.Flush r)) after held way gives = raise_flush r (ready h (raising.settle s)) after held gives
    raise_replied h (raising.settle s) (from_shard (told_by.Settle r)) after held way gives = raise_settle h s r after held gives
    raise_replied h (raising.raise again) (from_coordinator (told.Raise r)) after held way gives = raise_raise h again r after held gives
    raise_replied h raising.flush_to_raise (from_coordinator (told.Flush r)) after held way gives = raise_flush r (ready h (raising.raise true)) after held gives
    raise_replied h raising.flush_raised (from_coordinator (told.Flush r)) after held way gives = subst Raised (sym gives) (none_held seen)
    raise_replied h step reply after held way gives = absurd gives

    abbrev RaiseGiven : raising.RaiseView → Reply → raising.RaiseView → Type 0
    RaiseGiven middle reply after = MatchOption middle.awaited ⊥ (λ x. raising.Gives count place middle.holds x reply after)

    raises : (h : RaiseHolds) (step : raising.RaiseStep) (call : NodeCall) (reply : Reply) (middle after : raising.RaiseView) → IsHeld seen h.batch → raising.Asks count place h step call middle
        → IsReplyTo call reply → IsTold shards seen call reply → RaiseGiven middle reply after → Raised after
    raises h raising.ask call reply middle after held asks belongs is_told gives = raise_replied h raising.ask reply after held (λ s awaited is. absurd (cc is)) (subst (λ (m : raising.RaiseView). RaiseGiven m reply after) asks.1 gives)
    raises h raising.flush_to_ask call reply middle after held asks belongs is_told gives = raise_replied h raising.flush_to_ask reply after held (λ s awaited is. absurd (cc is)) (subst (λ (m : raising.RaiseView). RaiseGiven m reply after) asks.1 gives)
    raises h (raising.catch_up s is_out) call reply middle after held asks belongs is_told gives =
        let (heads, has, way) = some_of _ h.heads asks in
        let given = subst (λ (m : raising.RaiseView). RaiseGiven m reply after) way.2 gives in
        let (other, has_other, it) = some_of _ h.heads given in
        raise_progress (record h { batch = way.0.held.batch }) s it.0 after
        (caught_up (on_its_way s heads.kept h.batch) call reply _ way (on_its_way s other.kept way.0.held.batch) way.0.awaited it.0 refl refl held belongs is_told it.1) it.2
    raises h (raising.flush s) call reply middle after held asks belongs is_told gives = raise_replied h (raising.flush s) reply after held (λ n awaited is. absurd (cc is)) (subst (λ (m : raising.RaiseView). RaiseGiven m reply after) asks.1 gives)
    raises h (raising.settle s) call reply middle after held asks belongs is_told gives = raise_replied h (raising.settle s) reply after held (λ n awaited is. absurd (cc is)) (subst (λ (m : raising.RaiseView). RaiseGiven m reply after) asks.1 gives)
    raises h (raising.raise again) call reply middle after held asks belongs is_told gives = raise_replied (record h { settled = [] }) (raising.raise again) reply after held (λ s awaited is. absurd (cc is)) (subst (λ (m : raising.RaiseView). RaiseGiven m reply after) asks.1.3 gives)
    raises h raising.flush_to_raise call reply middle after held asks belongs is_told gives = raise_replied h raising.flush_to_raise reply after held (λ s awaited is. absurd (cc is)) (subst (λ (m : raising.RaiseView). RaiseGiven m reply after) asks.1 gives)
    raises h raising.flush_raised call reply middle after held asks belongs is_told gives = raise_replied h raising.flush_raised reply after held (λ s awaited is. absurd (cc is)) (subst (λ (m : raising.RaiseView). RaiseGiven m reply after) asks.2 gives)

-- it has a shard collect
module _ (s low : ℕ) where
  abbrev Low : collecting.CollectView → Type 0
  Low v = (h : HeadsValue) → v.holds.heads ≡ Some h → h.horizon ≤ low

  none_low : (h : HeadsValue) → None ≡ Some h → h.horizon ≤ low
  none_low h none = absurd (let bad : None ≡ Some h = none in cc)

  one_low : (h : HeadsValue) → h.horizon ≤ low → (x : HeadsValue) → Some h ≡ Some x → x.horizon ≤ low
  one_low h le x is = subst (λ (y : HeadsValue). y.horizon ≤ low) (same_Some h x is) le

  collect_heads : (h : HeadsHeld) (r : Result HeadsValue Refusal) (after : collecting.CollectView) → TellsCare low (Coordinator calls.Heads) (from_coordinator (told.Heads r)) → collecting.HeadsGive h r after → Low after
  collect_heads h (Ok heads) after tells gives = subst Low (sym gives) (one_low heads tells)
  collect_heads h (Err e) after tells gives = subst Low (sym gives) none_low

  collect_collect : (h : HeadsHeld) (again : Bool) (heads : HeadsValue) (r : Result (Unit {0}) Refusal) (after : collecting.CollectView) → ((x : HeadsValue) → h.heads ≡ Some x → x.horizon ≤ low) → heads.horizon ≤ low
      → collecting.CollectGives h again heads r after → Low after
  collect_collect h again heads (Ok done) after was le gives = subst Low (sym gives) was
  collect_collect h again heads (Err e) after was le gives = ⊎_elim
      (λ full. ⊎_elim
      (λ twice. subst Low (sym (gives.1 (inr twice))) none_low)
      (λ once. subst Low (sym (gives.0 full once)) (one_low heads le))
      (cases_Bool again))
      (λ other. subst Low (sym (gives.1 (inl other))) none_low)
      (is_full e)

  collect_flush : (h : HeadsHeld) (r : Result (Unit {0}) Refusal) (after : collecting.CollectView) → ((x : HeadsValue) → h.heads ≡ Some x → x.horizon ≤ low) → collecting.FlushGives h r after → Low after
  collect_flush h (Ok done) after was gives = subst Low (sym gives) was
  collect_flush h (Err e) after was gives = subst Low (sym gives) none_low

  abbrev CollectGiven : collecting.CollectView → Reply → collecting.CollectView → Type 0
  CollectGiven middle reply after = MatchOption middle.awaited ⊥ (λ x. collecting.Gives middle.holds x reply after)

  collects : (h : HeadsHeld) (step : collecting.CollectStep) (call : NodeCall) (reply : Reply) (middle after : collecting.CollectView) → ((x : HeadsValue) → h.heads ≡ Some x → x.horizon ≤ low) → collecting.Asks s h step call middle
      → IsReplyTo call reply → TellsCare low call reply → CollectGiven middle reply after → Low after
  collects h collecting.ask call reply middle after was asks belongs tells gives = by_reply reply (subst (λ (c : NodeCall). TellsCare low c reply) asks.0 tells) (subst (λ (m : collecting.CollectView). CollectGiven m reply after) asks.1 gives)
    where
      by_reply : (it : Reply) → TellsCare low (Coordinator calls.Heads) it → collecting.Gives h collecting.ask it after → Low after
      by_reply (from_coordinator (told.Heads r)) tells_it given = collect_heads h r after tells_it given
      by_reply it tells_it given = absurd given
  collects h (collecting.collect again) call reply middle after was asks belongs tells gives =
      let (heads, has, it) = some_of _ h.heads asks in
      by_reply heads (was heads has) reply (subst (λ (c : NodeCall). IsReplyTo c reply) it.0 belongs) (subst (λ (m : collecting.CollectView). CollectGiven m reply after) it.1 gives)
    where
      by_reply : (heads : HeadsValue) → heads.horizon ≤ low → (it : Reply) → IsReplyTo (Shard s (shard_calls.Collect heads)) it → collecting.Gives (record h { heads = None }) (collecting.collect again) it after → Low after
      by_reply heads le (from_shard (told_by.Collect back r)) back_is given = collect_collect (record h { heads = None }) again back r after none_low (subst (λ (x : HeadsValue). x.horizon ≤ low) (sym back_is) le) given
      by_reply heads le it back_is given = absurd given
  collects h collecting.flush_to_collect call reply middle after was asks belongs tells gives = by_reply reply (subst (λ (m : collecting.CollectView). CollectGiven m reply after) asks.1 gives)
    where
      by_reply : (it : Reply) → collecting.Gives h collecting.flush_to_collect it after → Low after
      by_reply (from_shard (told_by.Flush r)) given = collect_flush h r after was given
      by_reply it given = absurd given
  collects h collecting.flush call reply middle after was asks belongs tells gives = by_reply reply (subst (λ (m : collecting.CollectView). CollectGiven m reply after) asks.1 gives)
    where
      by_reply : (it : Reply) → collecting.Gives h collecting.flush it after → Low after
      by_reply (from_shard (told_by.Flush r)) given = subst Low (sym given) none_low
      by_reply it given = absurd given

no_heads_of : (h : HeadsValue) (low : ℕ) → None ≡ Some h → h.horizon ≤ low
no_heads_of h low none = absurd (let bad : None ≡ Some h = none in cc)

-- any care
module _ (shards : ℕ) (seen : List Entry) (low : ℕ) where
  next_is : {S : Type 0} (o : Option S) (call : NodeCall) (N : Type 0) (P : S → Type 0) → MatchOption o ((Some call ≡ None) × N) P → (step : S) × P step
  next_is None call N P none = absurd (let bad : Some call ≡ None = none.0 in cc)
  next_is (Some step) call N P it = (step, it)

  goes_on : (v middle after : CareFlow) (call : NodeCall) (reply : Reply) → IsCareOf seen low v → NextCall v (Some call) middle → IsReplyTo call reply → IsTold shards seen call reply → TellsCare low call reply → Answered middle reply after
      → IsCareOf seen low after
  goes_on (Flush v) (Flush m) (Flush w) call reply was asks belongs is_told tells gives = record { batch = none_held seen; heads = λ h none. no_heads_of h low none }
  goes_on (Learn v) (Learn m) (Learn w) call reply was asks belongs is_told tells gives =
      let (step, asked) = next_is v.seen.next call (m.seen ≡ v.seen) (λ x. learning.Asks v.shard v.seen.holds x call m.seen) asks.1 in
      record {
        batch = learns shards seen v.shard v.seen.holds step call reply m.seen w.seen was.batch asked belongs is_told
            (subst (λ (n : ℕ). MatchOption m.seen.awaited ⊥ (λ x. learning.Gives n m.seen.holds x reply w.seen)) asks.0 gives.1);
        heads = λ h none. no_heads_of h low none;
      }
  goes_on (Resolve v) (Resolve m) (Resolve w) call reply was asks belongs is_told tells gives =
      let (step, asked) = next_is v.seen.next call (m.seen ≡ v.seen) (λ x. resolving.Asks v.shard v.seen.holds x call m.seen) asks.2 in
      record {
        batch = resolves shards seen v.shard m.doubts v.seen.holds step call reply m.seen w.seen w.doubts was.batch asked belongs is_told
            (subst (λ (n : ℕ). MatchOption m.seen.awaited ⊥ (λ x. resolving.Gives n m.doubts m.seen.holds x reply w.doubts w.seen)) asks.0 gives.1);
        heads = λ h none. no_heads_of h low none;
      }
  goes_on (Raise v) (Raise m) (Raise w) call reply was asks belongs is_told tells gives =
      let (step, asked) = next_is v.seen.next call (m.seen ≡ v.seen) (λ x. raising.Asks v.shards v.place v.seen.holds x call m.seen) asks.2 in
      let given = subst (λ (n : ℕ). MatchOption m.seen.awaited ⊥ (λ x. raising.Gives m.shards n m.seen.holds x reply w.seen)) asks.1 gives.2 in
      record {
        batch = raises shards seen v.shards v.place v.seen.holds step call reply m.seen w.seen was.batch asked belongs is_told
            (subst (λ (n : ℕ). MatchOption m.seen.awaited ⊥ (λ x. raising.Gives n v.place m.seen.holds x reply w.seen)) asks.0 given);
        heads = λ h none. no_heads_of h low none;
      }
  goes_on (Collect v) (Collect m) (Collect w) call reply was asks belongs is_told tells gives =
      let (step, asked) = next_is v.seen.next call (m.seen ≡ v.seen) (λ x. collecting.Asks v.shard v.seen.holds x call m.seen) asks.1 in
      record { batch = none_held seen; heads = collects v.shard low v.seen.holds step call reply m.seen w.seen was.heads asked belongs tells gives.1 }
  goes_on (Flush v) (Flush m) after call reply was asks belongs is_told tells gives = absurd gives
  goes_on (Flush v) middle after call reply was asks belongs is_told tells gives = absurd asks
  goes_on (Learn v) (Learn m) after call reply was asks belongs is_told tells gives = absurd gives
  goes_on (Learn v) middle after call reply was asks belongs is_told tells gives = absurd asks
  goes_on (Resolve v) (Resolve m) after call reply was asks belongs is_told tells gives = absurd gives
  goes_on (Resolve v) middle after call reply was asks belongs is_told tells gives = absurd asks
  goes_on (Raise v) (Raise m) after call reply was asks belongs is_told tells gives = absurd gives
  goes_on (Raise v) middle after call reply was asks belongs is_told tells gives = absurd asks
  goes_on (Collect v) (Collect m) after call reply was asks belongs is_told tells gives = absurd gives
  goes_on (Collect v) middle after call reply was asks belongs is_told tells gives = absurd asks

  same_heads : (s t : ℕ) (h heads : HeadsValue) → Shard s (shard_calls.Collect h) ≡ Shard t (shard_calls.Collect heads) → heads ≡ h
  same_heads s t h heads is = cc

  -- what is handed over is what was held
  hands_batch : (v out : CareFlow) (s : ℕ) (b : BatchValue) → IsCareOf seen low v → NextCall v (Some (Shard s (shard_calls.Learn b))) out → IsBatchOf seen b
  hands_batch (Flush v) (Flush m) s b was asks =
      let (step, asked) = next_is v.seen.next (Shard s (shard_calls.Learn b)) (m.seen ≡ v.seen) (λ x. (Some (Shard s (shard_calls.Learn b)) ≡ Some (flushing.flush_of v.is_checkpoint v.node)) × (m.seen ≡ out tt flushing.flush)) asks.2 in
      absurd (no_flush v.is_checkpoint v.node asked.0)
    where
      no_flush : (is_checkpoint : Bool) (n : NodeName) → Some (Shard s (shard_calls.Learn b)) ≡ Some (flushing.flush_of is_checkpoint n) → ⊥
      no_flush false named.Coordinator is = cc
      no_flush false (named.Shard k) is = cc
      no_flush true named.Coordinator is = cc
      no_flush true (named.Shard k) is = cc
  hands_batch (Learn v) (Learn m) s b was asks = let (step, asked) = next_is v.seen.next (Shard s (shard_calls.Learn b)) (m.seen ≡ v.seen) (λ x. learning.Asks v.shard v.seen.holds x (Shard s (shard_calls.Learn b)) m.seen) asks.1 in by_step step asked
    where
      by_step : (step : learning.LearnStep) → learning.Asks v.shard v.seen.holds step (Shard s (shard_calls.Learn b)) m.seen → IsBatchOf seen b
      by_step learning.ask asked = absurd (let bad : Shard s (shard_calls.Learn b) ≡ Coordinator calls.Heads = asked.0 in cc)
      by_step (learning.catch_up is_out) asked = let (heads, has, way) = some_of _ v.seen.holds.heads asked in asked_for shards seen (on_its_way v.shard heads.kept v.seen.holds.batch) (Shard s (shard_calls.Learn b)) _ s b was.batch refl way
  hands_batch (Resolve v) (Resolve m) s b was asks = let (step, asked) = next_is v.seen.next (Shard s (shard_calls.Learn b)) (m.seen ≡ v.seen) (λ x. resolving.Asks v.shard v.seen.holds x (Shard s (shard_calls.Learn b)) m.seen) asks.2 in by_step step asked
    where
      by_step : (step : resolving.ResolveStep) → resolving.Asks v.shard v.seen.holds step (Shard s (shard_calls.Learn b)) m.seen → IsBatchOf seen b
      by_step resolving.in_doubt asked = absurd (let bad : Shard s (shard_calls.Learn b) ≡ Shard v.shard shard_calls.InDoubt = asked.0 in cc)
      by_step (resolving.inquire id) asked = absurd (let bad : Shard s (shard_calls.Learn b) ≡ Coordinator (calls.Inquire id) = asked.0 in cc)
      by_step (resolving.catch_up to is_out) asked = let way = asked.1 in asked_for shards seen (on_its_way v.shard to v.seen.holds.batch) (Shard s (shard_calls.Learn b)) _ s b was.batch refl way
      by_step resolving.drop_write asked = absurd (let bad : Shard s (shard_calls.Learn b) ≡ Shard v.shard (shard_calls.DropWrite asked.0 None) = asked.2 in cc)
  hands_batch (Raise v) (Raise m) s b was asks = let (step, asked) = next_is v.seen.next (Shard s (shard_calls.Learn b)) (m.seen ≡ v.seen) (λ x. raising.Asks v.shards v.place v.seen.holds x (Shard s (shard_calls.Learn b)) m.seen) asks.2 in by_step step asked
    where
      by_step : (step : raising.RaiseStep) → raising.Asks v.shards v.place v.seen.holds step (Shard s (shard_calls.Learn b)) m.seen → IsBatchOf seen b
      by_step raising.ask asked = absurd (let bad : Shard s (shard_calls.Learn b) ≡ Coordinator calls.Heads = asked.0 in cc)
      by_step raising.flush_to_ask asked = absurd (let bad : Shard s (shard_calls.Learn b) ≡ Coordinator calls.Flush = asked.0 in cc)
      by_step (raising.catch_up k is_out) asked = let (heads, has, way) = some_of _ v.seen.holds.heads asked in asked_for shards seen (on_its_way k heads.kept v.seen.holds.batch) (Shard s (shard_calls.Learn b)) _ s b was.batch refl way
      by_step (raising.flush k) asked = absurd (let bad : Shard s (shard_calls.Learn b) ≡ Shard k shard_calls.Flush = asked.0 in cc)
      by_step (raising.settle k) asked = absurd (let bad : Shard s (shard_calls.Learn b) ≡ Shard k shard_calls.Settle = asked.0 in cc)
      by_step (raising.raise again) asked = absurd (let bad : Shard s (shard_calls.Learn b) ≡ Coordinator (calls.Raise v.place asked.1.0) = asked.1.2 in cc)
      by_step raising.flush_to_raise asked = absurd (let bad : Shard s (shard_calls.Learn b) ≡ Coordinator calls.Flush = asked.0 in cc)
      by_step raising.flush_raised asked = absurd (let bad : Shard s (shard_calls.Learn b) ≡ Coordinator calls.Flush = asked.1 in cc)
  hands_batch (Collect v) (Collect m) s b was asks = let (step, asked) = next_is v.seen.next (Shard s (shard_calls.Learn b)) (m.seen ≡ v.seen) (λ x. collecting.Asks v.shard v.seen.holds x (Shard s (shard_calls.Learn b)) m.seen) asks.1 in by_step step asked
    where
      by_step : (step : collecting.CollectStep) → collecting.Asks v.shard v.seen.holds step (Shard s (shard_calls.Learn b)) m.seen → IsBatchOf seen b
      by_step collecting.ask asked = absurd (let bad : Shard s (shard_calls.Learn b) ≡ Coordinator calls.Heads = asked.0 in cc)
      by_step (collecting.collect again) asked = let (heads, has, it) = some_of _ v.seen.holds.heads asked in absurd (let bad : Shard s (shard_calls.Learn b) ≡ Shard v.shard (shard_calls.Collect heads) = it.0 in cc)
      by_step collecting.flush_to_collect asked = absurd (let bad : Shard s (shard_calls.Learn b) ≡ Shard v.shard shard_calls.Flush = asked.0 in cc)
      by_step collecting.flush asked = absurd (let bad : Shard s (shard_calls.Learn b) ≡ Shard v.shard shard_calls.Flush = asked.0 in cc)
  hands_batch (Flush v) out_of s b was asks = absurd asks
  hands_batch (Learn v) out_of s b was asks = absurd asks
  hands_batch (Resolve v) out_of s b was asks = absurd asks
  hands_batch (Raise v) out_of s b was asks = absurd asks
  hands_batch (Collect v) out_of s b was asks = absurd asks

  hands_heads : (v out : CareFlow) (s : ℕ) (h : HeadsValue) → IsCareOf seen low v → NextCall v (Some (Shard s (shard_calls.Collect h))) out → h.horizon ≤ low
  hands_heads (Flush v) (Flush m) s h was asks =
      let (step, asked) = next_is v.seen.next (Shard s (shard_calls.Collect h)) (m.seen ≡ v.seen) (λ x. (Some (Shard s (shard_calls.Collect h)) ≡ Some (flushing.flush_of v.is_checkpoint v.node)) × (m.seen ≡ out tt flushing.flush)) asks.2 in
      absurd (no_flush v.is_checkpoint v.node asked.0)
    where
      no_flush : (is_checkpoint : Bool) (n : NodeName) → Some (Shard s (shard_calls.Collect h)) ≡ Some (flushing.flush_of is_checkpoint n) → ⊥
      no_flush false named.Coordinator is = cc
      no_flush false (named.Shard k) is = cc
      no_flush true named.Coordinator is = cc
      no_flush true (named.Shard k) is = cc
  hands_heads (Learn v) (Learn m) s h was asks = let (step, asked) = next_is v.seen.next (Shard s (shard_calls.Collect h)) (m.seen ≡ v.seen) (λ x. learning.Asks v.shard v.seen.holds x (Shard s (shard_calls.Collect h)) m.seen) asks.1 in by_step step asked
    where
      by_step : (step : learning.LearnStep) → learning.Asks v.shard v.seen.holds step (Shard s (shard_calls.Collect h)) m.seen → h.horizon ≤ low
      by_step learning.ask asked = absurd (let bad : Shard s (shard_calls.Collect h) ≡ Coordinator calls.Heads = asked.0 in cc)
      by_step (learning.catch_up is_out) asked = let (heads, has, way) = some_of _ v.seen.holds.heads asked in absurd way.1.2.1
  hands_heads (Resolve v) (Resolve m) s h was asks = let (step, asked) = next_is v.seen.next (Shard s (shard_calls.Collect h)) (m.seen ≡ v.seen) (λ x. resolving.Asks v.shard v.seen.holds x (Shard s (shard_calls.Collect h)) m.seen) asks.2 in by_step step asked
    where
      by_step : (step : resolving.ResolveStep) → resolving.Asks v.shard v.seen.holds step (Shard s (shard_calls.Collect h)) m.seen → h.horizon ≤ low
      by_step resolving.in_doubt asked = absurd (let bad : Shard s (shard_calls.Collect h) ≡ Shard v.shard shard_calls.InDoubt = asked.0 in cc)
      by_step (resolving.inquire id) asked = absurd (let bad : Shard s (shard_calls.Collect h) ≡ Coordinator (calls.Inquire id) = asked.0 in cc)
      by_step (resolving.catch_up to is_out) asked = let way = asked.1 in absurd way.1.2.1
      by_step resolving.drop_write asked = absurd (let bad : Shard s (shard_calls.Collect h) ≡ Shard v.shard (shard_calls.DropWrite asked.0 None) = asked.2 in cc)
  hands_heads (Raise v) (Raise m) s h was asks = let (step, asked) = next_is v.seen.next (Shard s (shard_calls.Collect h)) (m.seen ≡ v.seen) (λ x. raising.Asks v.shards v.place v.seen.holds x (Shard s (shard_calls.Collect h)) m.seen) asks.2 in by_step step asked
    where
      by_step : (step : raising.RaiseStep) → raising.Asks v.shards v.place v.seen.holds step (Shard s (shard_calls.Collect h)) m.seen → h.horizon ≤ low
      by_step raising.ask asked = absurd (let bad : Shard s (shard_calls.Collect h) ≡ Coordinator calls.Heads = asked.0 in cc)
      by_step raising.flush_to_ask asked = absurd (let bad : Shard s (shard_calls.Collect h) ≡ Coordinator calls.Flush = asked.0 in cc)
      by_step (raising.catch_up k is_out) asked = let (heads, has, way) = some_of _ v.seen.holds.heads asked in absurd way.1.2.1
      by_step (raising.flush k) asked = absurd (let bad : Shard s (shard_calls.Collect h) ≡ Shard k shard_calls.Flush = asked.0 in cc)
      by_step (raising.settle k) asked = absurd (let bad : Shard s (shard_calls.Collect h) ≡ Shard k shard_calls.Settle = asked.0 in cc)
      by_step (raising.raise again) asked = absurd (let bad : Shard s (shard_calls.Collect h) ≡ Coordinator (calls.Raise v.place asked.1.0) = asked.1.2 in cc)
      by_step raising.flush_to_raise asked = absurd (let bad : Shard s (shard_calls.Collect h) ≡ Coordinator calls.Flush = asked.0 in cc)
      by_step raising.flush_raised asked = absurd (let bad : Shard s (shard_calls.Collect h) ≡ Coordinator calls.Flush = asked.1 in cc)
  hands_heads (Collect v) (Collect m) s h was asks = let (step, asked) = next_is v.seen.next (Shard s (shard_calls.Collect h)) (m.seen ≡ v.seen) (λ x. collecting.Asks v.shard v.seen.holds x (Shard s (shard_calls.Collect h)) m.seen) asks.1 in by_step step asked
    where
      by_step : (step : collecting.CollectStep) → collecting.Asks v.shard v.seen.holds step (Shard s (shard_calls.Collect h)) m.seen → h.horizon ≤ low
      by_step collecting.ask asked = absurd (let bad : Shard s (shard_calls.Collect h) ≡ Coordinator calls.Heads = asked.0 in cc)
      by_step (collecting.collect again) asked = let (heads, has, it) = some_of _ v.seen.holds.heads asked in was.heads h (has ∙ ap (λ (x : HeadsValue). Some x) (same_heads s v.shard h heads it.0))
      by_step collecting.flush_to_collect asked = absurd (let bad : Shard s (shard_calls.Collect h) ≡ Shard v.shard shard_calls.Flush = asked.0 in cc)
      by_step collecting.flush asked = absurd (let bad : Shard s (shard_calls.Collect h) ≡ Shard v.shard shard_calls.Flush = asked.0 in cc)
  hands_heads (Flush v) out_of s h was asks = absurd asks
  hands_heads (Learn v) out_of s h was asks = absurd asks
  hands_heads (Resolve v) out_of s h was asks = absurd asks
  hands_heads (Raise v) out_of s h was asks = absurd asks
  hands_heads (Collect v) out_of s h was asks = absurd asks

pub cares_go_on : CaresGoOn
cares_go_on shards seen longer low later v after pre le was turns =
    goes_on shards longer later v turns.out after turns.call turns.reply (cares_stay_seen seen longer low later v pre le was) turns.asks.1 turns.belongs turns.told turns.tells turns.gives.0

pub cares_hand_over_what_is_seen : CaresHandOverWhatIsSeen
cares_hand_over_what_is_seen seen low v out (Shard s (shard_calls.Learn b)) was asks = hands_batch 0 seen low v out s b was asks.1
cares_hand_over_what_is_seen seen low v out (Shard s (shard_calls.Collect h)) was asks = hands_heads 0 seen low v out s h was asks.1
cares_hand_over_what_is_seen seen low v out call was asks = tt
