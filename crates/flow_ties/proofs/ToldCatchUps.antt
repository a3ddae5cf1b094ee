-- A catch-up is refused by what the reply to its call carries.
use Rattle.std.proofs.Common.{◌≡◌, inl, inr, ⊎_elim, ℕ, Bool, ◌≤◌, ◌<◌, Some, Result, Ok, Err, sym, ◌∙◌, ap}
use Rattle.std.proofs.lemmas.Bool.{cases_Bool, cases_lt}
use Rattle.flow_ties.proofs.Words.{AnyRefusal, Asks, BatchValue, CatchUpCallValue, CatchUpValue, Coordinator, from_coordinator, from_shard, Gives, IsReplyTo, learning, Next, NodeCall, Progress, Refused, refused_by, Reply, Shard, There}
use Rattle.calls.specs.declared.call.CoordinatorCall.TheVariants as calls
use Rattle.calls.specs.declared.call.ShardCall.TheVariants as shard_calls
use Rattle.calls.specs.declared.reply.CoordinatorReply.TheVariants as told
use Rattle.calls.specs.declared.reply.ShardReply.TheVariants as told_by
use Rattle.refusal.proofs.Cases.{is_full, is_collected}

goes_on : (c : _) (progress : Progress) (e : AnyRefusal) → progress ≡ Next c → progress ≡ Refused e → ⊥
goes_on c progress e next refused = absurd (let bad : Next c ≡ Refused e = sym next ∙ refused in cc)

is_there : (progress : Progress) (e : AnyRefusal) → progress ≡ There → progress ≡ Refused e → ⊥
is_there progress e there refused = absurd (let bad : There ≡ Refused e = sym there ∙ refused in cc)

same_error : (f e : AnyRefusal) (progress : Progress) → progress ≡ Refused f → progress ≡ Refused e → Some f ≡ Some e
same_error f e progress one other = let same : Refused f ≡ Refused e = sym one ∙ other in cc

module _ (call : CatchUpCallValue) (progress : Progress) (e : AnyRefusal) (is : progress ≡ Refused e) where
  pub batch_carries : (r : Result BatchValue AnyRefusal) → Gives call (from_coordinator (told.Batch r)) progress → refused_by (from_coordinator (told.Batch r)) ≡ Some e
  batch_carries (Ok b) gives = absurd (goes_on _ progress e gives is)
  batch_carries (Err f) gives = ⊎_elim
      (λ collected. absurd (goes_on _ progress e (gives.0 collected) is))
      (λ other. same_error f e progress (gives.1 other) is)
      (is_collected f)

  pub learned_carries : (r : Result ℕ AnyRefusal) → Gives call (from_shard (told_by.Learned r)) progress → refused_by (from_shard (told_by.Learned r)) ≡ Some e
  learned_carries (Ok n) gives = ⊎_elim
      (λ (below : n < call.held.to). absurd (goes_on _ progress e (gives.1 below) is))
      (λ (there : call.held.to ≤ n). absurd (is_there progress e (gives.0 there) is))
      (cases_lt n call.held.to)
  learned_carries (Err f) gives = same_error f e progress gives is

  pub learn_carries : (b : BatchValue) (r : Result Bool AnyRefusal) (again : Bool) → call.awaited ≡ learning again → Gives call (from_shard (told_by.Learn b r)) progress → refused_by (from_shard (told_by.Learn b r)) ≡ Some e
  learn_carries b (Ok known) again awaited gives = absurd (goes_on _ progress e gives is)
  learn_carries b (Err f) again awaited gives = ⊎_elim
      (λ full. ⊎_elim
      (λ twice. same_error f e progress (gives.1 (inr (awaited ∙ ap learning twice))) is)
      (λ once. absurd (goes_on _ progress e (gives.0 full (awaited ∙ ap learning once)) is))
      (cases_Bool again))
      (λ other. same_error f e progress (gives.1 (inl other)) is)
      (is_full f)

  pub flush_carries : (r : Result (Unit {0}) AnyRefusal) → Gives call (from_shard (told_by.Flush r)) progress → refused_by (from_shard (told_by.Flush r)) ≡ Some e
  flush_carries (Ok done) gives = absurd (goes_on _ progress e gives is)
  flush_carries (Err f) gives = same_error f e progress gives is

  -- whichever call it was
  module _ (v : CatchUpValue) (then : CatchUpCallValue) (awaited_is : call.awaited ≡ then.awaited) where
    batch_came : (from to : ℕ) (reply : Reply) → IsReplyTo (Coordinator (calls.Batch from to)) reply → Gives call reply progress → refused_by reply ≡ Some e
    batch_came from to (from_coordinator (told.Batch r)) belongs gives = batch_carries r gives
    batch_came from to reply belongs gives = absurd belongs

    learned_told : (s : ℕ) (reply : Reply) → IsReplyTo (Shard s shard_calls.Learned) reply → Gives call reply progress → refused_by reply ≡ Some e
    learned_told s (from_shard (told_by.Learned r)) belongs gives = learned_carries r gives
    learned_told s reply belongs gives = absurd belongs

    has_learned : (s : ℕ) (b : BatchValue) (reply : Reply) → Asks v (Shard s (shard_calls.Learn b)) then → IsReplyTo (Shard s (shard_calls.Learn b)) reply → Gives call reply progress → refused_by reply ≡ Some e
    has_learned s b (from_shard (told_by.Learn back r)) asks belongs gives = learn_carries back r v.flushed (awaited_is ∙ ap (λ (c : CatchUpCallValue). c.awaited) asks.1.1) gives
    has_learned s b reply asks belongs gives = absurd belongs

    was_flushed : (s : ℕ) (reply : Reply) → IsReplyTo (Shard s shard_calls.Flush) reply → Gives call reply progress → refused_by reply ≡ Some e
    was_flushed s (from_shard (told_by.Flush r)) belongs gives = flush_carries r gives
    was_flushed s reply belongs gives = absurd belongs

    pub call_carries : (asked : NodeCall) (reply : Reply) → Asks v asked then → IsReplyTo asked reply → Gives call reply progress → refused_by reply ≡ Some e
    call_carries (Coordinator (calls.Batch from to)) reply asks belongs gives = batch_came from to reply belongs gives
    call_carries (Coordinator asked) reply asks belongs gives = absurd asks
    call_carries (Shard s shard_calls.Learned) reply asks belongs gives = learned_told s reply belongs gives
    call_carries (Shard s (shard_calls.Learn b)) reply asks belongs gives = has_learned s b reply asks belongs gives
    call_carries (Shard s shard_calls.Flush) reply asks belongs gives = was_flushed s reply belongs gives
    call_carries (Shard s asked) reply asks belongs gives = absurd asks.1
