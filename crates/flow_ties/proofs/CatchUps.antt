-- What is on its way to a shard is a part of the list that was seen.
use Rattle.std.proofs.Common.{◌≡◌, ◌⊎◌, inl, inr, ⊎_elim, ℕ, Bool, ◌≤◌, ◌<◌, List, Option, Some, None, Result, Ok, Err, sym, ◌∙◌, ap, subst}
use Rattle.std.proofs.lemmas.Bool.{cases_Bool, cases_lt}
use Rattle.std.proofs.lemmas.Option.{same_Some}
use mathlib.Core.List.{IsPrefix}
use Rattle.flow_ties.proofs.Words.{Asks, BatchValue, CatchUpCallValue, CatchUpValue, Coordinator, Entry, from_coordinator, from_shard, Gives, IsBatchOf, IsHeld, IsReplyTo, IsTold, learning, Next, NodeCall, Progress, Refusal, Refused, Reply, Shard, There}
use Rattle.refusal.proofs.Cases.{is_full, is_collected}
use Rattle.calls.specs.declared.call.CoordinatorCall.TheVariants as calls
use Rattle.calls.specs.declared.call.ShardCall.TheVariants as shard_calls
use Rattle.calls.specs.declared.reply.CoordinatorReply.TheVariants as told
use Rattle.calls.specs.declared.reply.ShardReply.TheVariants as told_by
use Rattle.catch_up.specs.CatchingUp.{BatchGives, LearnGives}
use Rattle.ties.proofs.Telling.{batch_longer}

pub held_longer : (seen longer : List Entry) (held : Option BatchValue) → IsPrefix seen longer → IsHeld seen held → IsHeld longer held
held_longer seen longer held pre is b has = batch_longer seen longer b pre (is b has)

pub none_held : (seen : List Entry) → IsHeld seen None
none_held seen b none = absurd (let bad : None ≡ Some b = none in cc)

pub one_held : (seen : List Entry) (b : BatchValue) → IsBatchOf seen b → IsHeld seen (Some b)
one_held seen b is x same = subst (IsBatchOf seen) (same_Some b x same) is

-- what is held after a reply
abbrev pub HoldsOn : List Entry → Progress → Type 0
HoldsOn seen (Next c) = IsHeld seen c.batch
HoldsOn seen There = Unit {0}
HoldsOn seen (Refused e) = Unit {0}

-- a batch that is handed over is the one that was held
pub handed_over : (seen : List Entry) (v : CatchUpValue) (s : ℕ) (b : BatchValue) (then : CatchUpCallValue) → IsHeld seen v.batch → Asks v (Shard s (shard_calls.Learn b)) then → IsBatchOf seen b
handed_over seen v s b then held asks = held b asks.1.0

-- a batch that was told is a part of the list
abbrev pub IsToldBatch : List Entry → Result BatchValue Refusal → Type 0
IsToldBatch later (Ok b) = IsBatchOf later b
IsToldBatch later (Err e) = Unit {0}

module _ (later : List Entry) (given : CatchUpCallValue) where
  pub by_batch : (r : Result BatchValue Refusal) (progress : Progress) → IsHeld later given.held.batch → IsToldBatch later r → BatchGives given.held r progress → HoldsOn later progress
  by_batch (Ok b) progress held told_b gives = subst (HoldsOn later) (sym gives) (one_held later b told_b)
  by_batch (Err e) progress held told_b gives = ⊎_elim
      (λ is. subst (HoldsOn later) (sym (gives.0 is)) (none_held later))
      (λ other. subst (HoldsOn later) (sym (gives.1 other)) tt)
      (is_collected e)

  pub by_learned : (r : Result ℕ Refusal) (progress : Progress) → Gives given (from_shard (told_by.Learned r)) progress → HoldsOn later progress
  by_learned (Ok n) progress gives = ⊎_elim
      (λ (below : n < given.held.to). subst (HoldsOn later) (sym (gives.1 below)) (none_held later))
      (λ (there : given.held.to ≤ n). subst (HoldsOn later) (sym (gives.0 there)) tt)
      (cases_lt n given.held.to)
  by_learned (Err e) progress gives = subst (HoldsOn later) (sym gives) tt

  pub by_learn : (b : BatchValue) (r : Result Bool Refusal) (again : Bool) → given.awaited ≡ learning again → (progress : Progress) → IsBatchOf later b → LearnGives given.held given.awaited b r progress → HoldsOn later progress
  by_learn b (Ok known) again is progress batch gives = subst (HoldsOn later) (sym gives) (none_held later)
  by_learn b (Err e) again is progress batch gives = ⊎_elim
      (λ full. ⊎_elim
      (λ twice. subst (HoldsOn later) (sym (gives.1 (inr (is ∙ ap learning twice)))) tt)
      (λ once. subst (HoldsOn later) (sym (gives.0 full (is ∙ ap learning once))) (one_held later b batch))
      (cases_Bool again))
      (λ other. subst (HoldsOn later) (sym (gives.1 (inl other))) tt)
      (is_full e)

  pub by_flush : (r : Result (Unit {0}) Refusal) (progress : Progress) → IsHeld later given.held.batch → Gives given (from_shard (told_by.Flush r)) progress → HoldsOn later progress
  by_flush (Ok done) progress held gives = subst (HoldsOn later) (sym gives) held
  by_flush (Err e) progress held gives = subst (HoldsOn later) (sym gives) tt

-- What a reply makes of a catch-up that held a part of the list holds a part of it, if the reply tells what is of the list.
module _ (shards : ℕ) (later : List Entry) (v : CatchUpValue) (then given : CatchUpCallValue) (awaited_is : given.awaited ≡ then.awaited) (batch_is : given.held.batch ≡ then.held.batch) (held : IsHeld later v.batch) where
  same_batch : then.held.batch ≡ v.batch → IsHeld later given.held.batch
  same_batch is = subst (IsHeld later) (sym (batch_is ∙ is)) held

  batch_replied : (from to : ℕ) (reply : Reply) (progress : Progress) → Asks v (Coordinator (calls.Batch from to)) then → IsTold shards later (Coordinator (calls.Batch from to)) reply
      → IsReplyTo (Coordinator (calls.Batch from to)) reply → Gives given reply progress → HoldsOn later progress
  batch_replied from to (from_coordinator (told.Batch (Ok b))) progress asks is_told belongs gives =
      by_batch later given (Ok b) progress (same_batch (ap (λ (c : CatchUpCallValue). c.held.batch) asks.3)) is_told gives
  batch_replied from to (from_coordinator (told.Batch (Err e))) progress asks is_told belongs gives =
      by_batch later given (Err e) progress (same_batch (ap (λ (c : CatchUpCallValue). c.held.batch) asks.3)) tt gives
  batch_replied from to reply progress asks is_told belongs gives = absurd belongs

  learned_replied : (s : ℕ) (reply : Reply) (progress : Progress) → IsReplyTo (Shard s shard_calls.Learned) reply → Gives given reply progress → HoldsOn later progress
  learned_replied s (from_shard (told_by.Learned r)) progress belongs gives = by_learned later given r progress gives
  learned_replied s reply progress belongs gives = absurd belongs

  learn_replied : (s : ℕ) (b : BatchValue) (reply : Reply) (progress : Progress) → Asks v (Shard s (shard_calls.Learn b)) then → IsReplyTo (Shard s (shard_calls.Learn b)) reply → Gives given reply progress → HoldsOn later progress
  learn_replied s b (from_shard (told_by.Learn back r)) progress asks belongs gives =
      by_learn later given back r v.flushed (awaited_is ∙ ap (λ (c : CatchUpCallValue). c.awaited) asks.1.1) progress (subst (IsBatchOf later) (sym belongs) (held b asks.1.0)) gives
  learn_replied s b reply progress asks belongs gives = absurd belongs

  flush_replied : (s : ℕ) (reply : Reply) (progress : Progress) → Asks v (Shard s shard_calls.Flush) then → IsReplyTo (Shard s shard_calls.Flush) reply → Gives given reply progress → HoldsOn later progress
  flush_replied s (from_shard (told_by.Flush r)) progress asks belongs gives = by_flush later given r progress (same_batch (ap (λ (c : CatchUpCallValue). c.held.batch) asks.1)) gives
  flush_replied s reply progress asks belongs gives = absurd belongs

  pub caught : (call : NodeCall) (reply : Reply) (progress : Progress) → Asks v call then → IsReplyTo call reply → IsTold shards later call reply → Gives given reply progress → HoldsOn later progress
  caught (Coordinator (calls.Batch from to)) reply progress asks belongs is_told gives = batch_replied from to reply progress asks is_told belongs gives
  caught (Coordinator call) reply progress asks belongs is_told gives = absurd asks
  caught (Shard s shard_calls.Learned) reply progress asks belongs is_told gives = learned_replied s reply progress belongs gives
  caught (Shard s (shard_calls.Learn b)) reply progress asks belongs is_told gives = learn_replied s b reply progress asks belongs gives
  caught (Shard s shard_calls.Flush) reply progress asks belongs is_told gives = flush_replied s reply progress asks belongs gives
  caught (Shard s call) reply progress asks belongs is_told gives = absurd asks.1
