-- What a catch-up asks may be asked, and it stays with its shard and its place.
use Rattle.std.proofs.Common.{◌≡◌, ◌≢◌, ◌⊎◌, inl, inr, ⊎_elim, ◌<◌, ◌≤◌, ℕ, true, false, Ok, Err, arith, refl, sym, ap, subst}
use Rattle.std.proofs.lemmas.Bool.{cases_lt}
use Rattle.refusal.specs.declared.refusal.Refusal.{Refusal}
use Rattle.refusal.specs.declared.refusal.Refusal.TheVariants.{Collected, Full}
use Rattle.refusal.proofs.Cases.{is_full, is_collected}
use Rattle.calls.specs.Asking.{MayBeMade}
use Rattle.calls.specs.declared.call.NodeCall.{NodeCall}
use Rattle.calls.specs.declared.call.NodeCall.TheVariants.{Coordinator, Shard}
use Rattle.calls.specs.declared.call.CoordinatorCall.TheVariants as calls
use Rattle.calls.specs.declared.call.ShardCall.TheVariants as shard_calls
use Rattle.calls.specs.declared.reply.Reply.{Reply}
use Rattle.calls.specs.declared.reply.Reply.TheVariants.{Coordinator as from_coordinator, Shard as from_shard}
use Rattle.calls.specs.declared.reply.CoordinatorReply.TheVariants as told
use Rattle.calls.specs.declared.reply.ShardReply.TheVariants as told_by
use Rattle.decisions.specs.Values.{BatchValue}
use Rattle.catch_up.specs.CatchingUp as catching
use Rattle.catch_up.specs.Held.{Awaited, CatchUpCallValue, CatchUpValue, decisions, flushing, learned, learning}
use Rattle.catch_up.specs.declared.caught.Progress.TheVariants.{Next}

pub owed : (shards : ℕ) (way : CatchUpValue) (call : NodeCall) (out : CatchUpCallValue) → way.shard < shards → catching.Asks way call out → MayBeMade shards call
owed shards way (Coordinator (calls.Batch from to)) out there asks = let below : from < to = asks.1 in omega (arith, below)
owed shards way (Coordinator (calls.Begin w)) out there asks = absurd asks
owed shards way (Coordinator calls.Heads) out there asks = absurd asks
owed shards way (Coordinator (calls.Decide i vs)) out there asks = absurd asks
owed shards way (Coordinator (calls.Outcome d)) out there asks = absurd asks
owed shards way (Coordinator (calls.Abort i)) out there asks = absurd asks
owed shards way (Coordinator (calls.Inquire id)) out there asks = absurd asks
owed shards way (Coordinator (calls.Raise place ss)) out there asks = absurd asks
owed shards way (Coordinator calls.Checkpoint) out there asks = absurd asks
owed shards way (Coordinator calls.Flush) out there asks = absurd asks
owed shards way (Shard s shard_calls.Learned) out there asks = (subst (λ (n : ℕ). n < shards) (sym asks.0) there, tt)
owed shards way (Shard s (shard_calls.Learn b)) out there asks = (subst (λ (n : ℕ). n < shards) (sym asks.0) there, tt)
owed shards way (Shard s shard_calls.Flush) out there asks = (subst (λ (n : ℕ). n < shards) (sym asks.0) there, tt)
owed shards way (Shard s (shard_calls.StagePrepare i)) out there asks = absurd asks.1
owed shards way (Shard s (shard_calls.Vote t)) out there asks = absurd asks.1
owed shards way (Shard s (shard_calls.DropWrite v h)) out there asks = absurd asks.1
owed shards way (Shard s shard_calls.InDoubt) out there asks = absurd asks.1
owed shards way (Shard s (shard_calls.Read place set)) out there asks = absurd asks.1
owed shards way (Shard s (shard_calls.ReadForCheck place x u)) out there asks = absurd asks.1
owed shards way (Shard s shard_calls.Settle) out there asks = absurd asks.1
owed shards way (Shard s (shard_calls.Collect h)) out there asks = absurd asks.1
owed shards way (Shard s shard_calls.Checkpoint) out there asks = absurd asks.1

-- a call leaves the shard and the place
pub same_way : (way : CatchUpValue) (call : NodeCall) (out : CatchUpCallValue) → catching.Asks way call out → (out.held.shard ≡ way.shard) × (out.held.to ≡ way.to)
same_way way (Coordinator (calls.Batch from to)) out asks = let e = asks.3 in (ap (λ (o : CatchUpCallValue). o.held.shard) e, ap (λ (o : CatchUpCallValue). o.held.to) e)
same_way way (Coordinator (calls.Begin w)) out asks = absurd asks
same_way way (Coordinator calls.Heads) out asks = absurd asks
same_way way (Coordinator (calls.Decide i vs)) out asks = absurd asks
same_way way (Coordinator (calls.Outcome d)) out asks = absurd asks
same_way way (Coordinator (calls.Abort i)) out asks = absurd asks
same_way way (Coordinator (calls.Inquire id)) out asks = absurd asks
same_way way (Coordinator (calls.Raise place ss)) out asks = absurd asks
same_way way (Coordinator calls.Checkpoint) out asks = absurd asks
same_way way (Coordinator calls.Flush) out asks = absurd asks
same_way way (Shard s shard_calls.Learned) out asks = let e = asks.1 in (ap (λ (o : CatchUpCallValue). o.held.shard) e, ap (λ (o : CatchUpCallValue). o.held.to) e)
same_way way (Shard s (shard_calls.Learn b)) out asks = let e = asks.1.1 in (ap (λ (o : CatchUpCallValue). o.held.shard) e, ap (λ (o : CatchUpCallValue). o.held.to) e)
same_way way (Shard s shard_calls.Flush) out asks = let e = asks.1 in (ap (λ (o : CatchUpCallValue). o.held.shard) e, ap (λ (o : CatchUpCallValue). o.held.to) e)
same_way way (Shard s (shard_calls.StagePrepare i)) out asks = absurd asks.1
same_way way (Shard s (shard_calls.Vote t)) out asks = absurd asks.1
same_way way (Shard s (shard_calls.DropWrite v h)) out asks = absurd asks.1
same_way way (Shard s shard_calls.InDoubt) out asks = absurd asks.1
same_way way (Shard s (shard_calls.Read place set)) out asks = absurd asks.1
same_way way (Shard s (shard_calls.ReadForCheck place x u)) out asks = absurd asks.1
same_way way (Shard s shard_calls.Settle) out asks = absurd asks.1
same_way way (Shard s (shard_calls.Collect h)) out asks = absurd asks.1
same_way way (Shard s shard_calls.Checkpoint) out asks = absurd asks.1

IsSameWay : CatchUpCallValue → CatchUpValue → Type 0
IsSameWay call c = (c.shard ≡ call.held.shard) × (c.to ≡ call.held.to)

with_batch : (call : CatchUpCallValue) (c : CatchUpValue) (b : _) (n : _) (from : _) (flushed : _) → Next c ≡ Next (record call.held { batch = b; next = n; from = from; flushed = flushed }) → IsSameWay call c
unfolding IsSameWay
with_batch call c b n from flushed is =
    let same : c ≡ record call.held { batch = b; next = n; from = from; flushed = flushed } = cc in (ap (λ (v : CatchUpValue). v.shard) same, ap (λ (v : CatchUpValue). v.to) same)

refused_learn : (held : CatchUpValue) (awaited : Awaited) (b : BatchValue) (e : Refusal) (c : CatchUpValue) → catching.FitsShard awaited (told_by.Learn b (Err e))
    → catching.LearnGives held awaited b (Err e) (Next c) → (c.shard ≡ held.shard) × (c.to ≡ held.to)
refused_learn held learned b e c fits gives = absurd fits
refused_learn held decisions b e c fits gives = absurd fits
refused_learn held flushing b e c fits gives = absurd fits
refused_learn held (learning true) b e c fits gives = absurd (let wrong = gives.1 (inr refl) in cc)
refused_learn held (learning false) b e c fits gives = ⊎_elim
    (λ (is : e ≡ Full). let next = gives.0 is refl in let same : c ≡ catching.to_flush b held = cc in (ap (λ (v : CatchUpValue). v.shard) same, ap (λ (v : CatchUpValue). v.to) same))
    (λ (not : e ≢ Full). absurd (let wrong = gives.1 (inl not) in cc))
    (is_full e)

-- and so does a reply after which it goes on
pub goes_on : (call : CatchUpCallValue) (reply : Reply) (c : CatchUpValue) → catching.Fits call.awaited reply → catching.Gives call reply (Next c) → (c.shard ≡ call.held.shard) × (c.to ≡ call.held.to)
unfolding IsSameWay
goes_on call (from_coordinator (told.Batch (Ok b))) c fits gives = with_batch call c _ _ _ _ gives
goes_on call (from_coordinator (told.Batch (Err e))) c fits gives = ⊎_elim
    (λ (is : e ≡ Collected). with_batch call c _ _ _ _ (gives.0 is))
    (λ (not : e ≢ Collected). absurd (let wrong = gives.1 not in cc))
    (is_collected e)
goes_on call (from_coordinator (told.Begin r)) c fits gives = absurd gives
goes_on call (from_coordinator (told.Heads r)) c fits gives = absurd gives
goes_on call (from_coordinator (told.Decide r)) c fits gives = absurd gives
goes_on call (from_coordinator (told.Outcome r)) c fits gives = absurd gives
goes_on call (from_coordinator (told.Abort r)) c fits gives = absurd gives
goes_on call (from_coordinator (told.Inquire r)) c fits gives = absurd gives
goes_on call (from_coordinator (told.Raise r)) c fits gives = absurd gives
goes_on call (from_coordinator (told.Flush r)) c fits gives = absurd gives
goes_on call (from_coordinator (told.Checkpoint r)) c fits gives = absurd gives
goes_on call (from_shard (told_by.Learned (Ok n))) c fits gives = ⊎_elim
    (λ (below : n < call.held.to). with_batch call c _ _ _ _ (gives.1 below))
    (λ (there : call.held.to ≤ n). absurd (let wrong = gives.0 there in cc))
    (cases_lt n call.held.to)
goes_on call (from_shard (told_by.Learned (Err e))) c fits gives = absurd (let wrong = gives in cc)
goes_on call (from_shard (told_by.Learn b (Ok known))) c fits gives = with_batch call c _ _ _ _ gives
goes_on call (from_shard (told_by.Learn b (Err e))) c fits gives = refused_learn call.held call.awaited b e c fits gives
goes_on call (from_shard (told_by.Flush (Ok done))) c fits gives = let same : c ≡ catching.to_hand_over call.held.batch true call.held = cc in (ap (λ (v : CatchUpValue). v.shard) same, ap (λ (v : CatchUpValue). v.to) same)
goes_on call (from_shard (told_by.Flush (Err e))) c fits gives = absurd (let wrong = gives in cc)
goes_on call (from_shard (told_by.StagePrepare i r)) c fits gives = absurd gives
goes_on call (from_shard (told_by.Vote r)) c fits gives = absurd gives
goes_on call (from_shard (told_by.DropWrite v r)) c fits gives = absurd gives
goes_on call (from_shard (told_by.InDoubt r)) c fits gives = absurd gives
goes_on call (from_shard (told_by.Read set r)) c fits gives = absurd gives
goes_on call (from_shard (told_by.ReadForCheck x u r)) c fits gives = absurd gives
goes_on call (from_shard (told_by.Settle r)) c fits gives = absurd gives
goes_on call (from_shard (told_by.Collect h r)) c fits gives = absurd gives
goes_on call (from_shard (told_by.Checkpoint r)) c fits gives = absurd gives
