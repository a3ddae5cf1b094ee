-- A shard that is brought up to a place, whatever flow does it: each call of that is quiet, and what the flow then holds of decisions is right.
use Rattle.std.proofs.Common.{◌≡◌, ◌≢◌, ◌⊎◌, inl, inr, ⊎_elim, ◌≤◌, ◌<◌, ℕ, Bool, false, List, Some, None, Result, Ok, Err, Contains, refl, sym, ◌∙◌, ap, subst, arith}
use Rattle.std.proofs.lemmas.Bool.{cases_Bool, cases_lt}
use Rattle.std.proofs.lemmas.Option.{same_Some}
use Rattle.flow_turns.proofs.CallWords.{Answered, BatchValue, Calls, Collected, CoordinatorCall, Full, HasItsCause, IsCalled, IsOwed, IsReplyTo, Moment, NodeCall, NodeName, NodeView, Nodes, Refusal, Reply, Running, ShardCall, StandsOver, State, Store, Unsure, called, coordinator, from_coordinator, from_shard, left, memory, of_coordinator, of_shard, shard, stops}
use Rattle.records.specs.Replays.{ShardState}
use Rattle.calls.specs.declared.call.CoordinatorCall.TheVariants as coordinator_calls
use Rattle.calls.specs.declared.call.ShardCall.TheVariants as shard_calls
use Rattle.calls.specs.declared.reply.CoordinatorReply.TheVariants as told
use Rattle.calls.specs.declared.reply.ShardReply.TheVariants as told_by
use Rattle.catch_up.specs.CatchingUp.{Asks, AsksCoordinator, AsksShard, Gives, LearnGives}
use Rattle.catch_up.specs.Held.{CatchUpCallValue, CatchUpValue, decisions, flushing, learned, learning}
use Rattle.catch_up.specs.declared.caught.Progress.{Progress}
use Rattle.catch_up.specs.declared.caught.Progress.TheVariants.{Next, There, Refused}
use Rattle.laws.specs.Nodes.{ShardKnows}
use Rattle.stores.specs.Causes.{LetsLearn}
use Rattle.stores.specs.Held.{IfHeld, IsRightBatch}
use Rattle.turns.specs.QuietTurns.{batch_of}
use Rattle.turns.proofs.CoordinatorCalls.{batch_answers, batch_has_cause}
use Rattle.turns.proofs.QuietTurns.{lets_take_memory}
use Rattle.turns.proofs.ShardLearnSeam.{learns_quietly, refused_learns_have_cause}
use Rattle.flow_turns.specs.StoreCalls.{FitsItsTypes}
use Rattle.flow_turns.proofs.Belongs.{belongs_to}
use Rattle.flow_turns.proofs.Asked.{batch_told, learn_told, learned_told}
use Rattle.flow_turns.proofs.Flushed.{shard_flushed}
use Rattle.flow_turns.proofs.Made.{FailsQuietly, IsQuietlyMade, still_of}

module _ {D : Type 0} (state : D → State) (honest : D → Type 0) (moment : D → ℕ) (left_since : D → ℕ → List ℕ → Type 0)
    (counts_now : (d : D) (t : ℕ) (c : List ℕ) → honest d → t ≤ moment d → left (state d) c → left_since d t c) (only_now : (d : D) (c : List ℕ) → honest d → left_since d (moment d) c → left (state d) c)
    (store shards : ℕ) (old new : Store D) (now : Moment) (standing : StandsOver state honest store shards old now) where
  -- A call of the catch-up led to these nodes; the flow that made it is refused with cause, or holds decisions that are right, or the shard is there.
  abbrev pub CatchUpComes : Running → ℕ → ℕ → Progress → Type 0
  CatchUpComes r s to (Next c) = (next : Nodes) × IsQuietlyMade state honest moment left_since store shards old new now standing next now.machine × IfHeld c.batch (IsRightBatch now.machine)
  CatchUpComes r s to There = (next : Nodes) × IsQuietlyMade state honest moment left_since store shards old new now standing next now.machine × ((known : ShardState) × ShardKnows next s known × (to ≤ known.learned))
  CatchUpComes r s to (Refused e) = (next : Nodes) × (quiet : IsQuietlyMade state honest moment left_since store shards old new now standing next now.machine)
      × ((ran : Moment) → ran.nodes ≡ next → HasItsCause shards quiet.0.node now ran r e × (e ≢ Unsure))

  -- The flow calls the coordinator and this shard, and lets it learn, up to a place that is kept; and it holds these decisions.
  pub record IsCatchingUp (r : Running) (v : CatchUpValue) : Type 0 where
    pub runs : Contains now.running r
    pub calls_coordinator : Calls shards r.asked r.holds coordinator
    pub calls_shard : v.shard < shards → Calls shards r.asked r.holds (shard v.shard)
    pub lets : LetsLearn r.asked
    pub kept : v.to ≤ now.machine.kept
    pub held : batch_of r.holds ≡ v.batch
    pub right : IfHeld v.batch (IsRightBatch now.machine)

  none_right : IfHeld None (IsRightBatch now.machine)
  none_right b is = absurd (let bad : None ≡ Some b = is in cc)

  one_right : (b : BatchValue) → IsRightBatch now.machine b → IfHeld (Some b) (IsRightBatch now.machine)
  one_right b right x is = subst (IsRightBatch now.machine) (same_Some b x is) right

  module _ (r : Running) (v : CatchUpValue) (on : IsCatchingUp r v) where
    abbrev Here : Progress → Type 0
    Here = CatchUpComes r v.shard v.to

    fails_here : (n : NodeName) (e : Refusal) → Calls shards r.asked r.holds n → FailsQuietly state honest moment left_since store shards old new now standing n e → Here (Refused e)
    fails_here n e calls (next, quiet, cause) = (next, quiet, λ ran is. cause r ran is calls)

    by_learned : (was is : NodeView D) (x : Result ℕ Refusal) (progress : Progress) → IsCalled state honest moment left_since store shards (shard v.shard) was is old new
        → Answered state honest moment left_since was (of_shard v.shard shard_calls.Learned) (from_shard (told_by.Learned x)) is
        → Gives (record { held = v; awaited = learned }) (from_shard (told_by.Learned x)) progress → Here progress
    by_learned was is (Ok n) progress c so gives =
        let it = learned_told state honest moment left_since counts_now only_now store shards old new now standing v.shard was is (Ok n) c so in
        ⊎_elim
        (λ (lt : n < v.to). subst Here (sym (gives.1 lt)) (now.nodes, it.0, none_right))
        (λ (le : v.to ≤ n). subst Here (sym (gives.0 le)) (
          now.nodes,
          it.0,
          (memory it.1.0, record { durable = it.1.0.durable; staged = it.1.0.staged; is_up = it.1.1.at; replayed = refl }, subst (λ (k : ℕ). v.to ≤ k) it.1.3 le),
        ))
        (cases_lt n v.to)
    by_learned was is (Err e) progress c so gives = subst Here (sym gives)
        (fails_here (shard v.shard) e (on.calls_shard c.before.there) (learned_told state honest moment left_since counts_now only_now store shards old new now standing v.shard was is (Err e) c so))

    by_batch : (was is : NodeView D) (from : ℕ) (x : Result BatchValue Refusal) (progress : Progress) → from < v.to → IsCalled state honest moment left_since store shards coordinator was is old new
        → Answered state honest moment left_since was (of_coordinator (coordinator_calls.Batch from v.to)) (from_coordinator (told.Batch x)) is
        → Gives (record { held = record v { from = None }; awaited = decisions }) (from_coordinator (told.Batch x)) progress → Here progress
    by_batch was is from (Ok b) progress low c so gives =
        let it = batch_told state honest moment left_since counts_now only_now store shards old new now standing was is from v.to (Ok b) c so in
        let right = batch_answers store shards (stops state honest store shards old.devices) D now it.1.0 from v.to b standing.stands it.1.1 (omega (arith, low)) it.1.2 in
        subst Here (sym gives) (now.nodes, it.0, one_right b right.0)
    by_batch was is from (Err e) progress low c so gives = ⊎_elim
        (λ fails. by_refusal (λ other. fails_here coordinator e on.calls_coordinator fails) (fails.0, fails.1))
        (λ refused. ⊎_elim
        (λ future. absurd ((batch_has_cause store shards (stops state honest store shards old.devices) D now now refused.1.0 r from v.to standing.stands refused.1.1).0 on.kept future.1))
        (λ rest. by_refusal (λ other. ⊎_elim
        (λ collected. absurd (other collected.0))
        (λ none. (now.nodes, refused.0, λ ran is_then. subst (λ (f : Refusal). HasItsCause shards refused.0.0.node now ran r f × (f ≢ Unsure)) (sym none) (inl (lets_take_memory r.asked on.lets), λ is. cc)))
        rest) (now.nodes, refused.0))
        refused.1.2)
        (batch_told state honest moment left_since counts_now only_now store shards old new now standing was is from v.to (Err e) c so)
      where
        is_collected : (f : Refusal) → (f ≡ Collected) ⊎ (f ≢ Collected)
        is_collected Collected = inl refl
        is_collected f = inr (λ is. cc)

        by_refusal : ((e ≢ Collected) → Here (Refused e)) → ((next : Nodes) × IsQuietlyMade state honest moment left_since store shards old new now standing next now.machine) → Here progress
        by_refusal refuses quiet = ⊎_elim
            (λ is. subst Here (sym (gives.0 is)) (quiet.0, quiet.1, none_right))
            (λ other. subst Here (sym (gives.1 other)) (refuses other))
            (is_collected e)

    by_learn : (was is : NodeView D) (b back : BatchValue) (again : Bool) (x : Result Bool Refusal) (progress : Progress) → v.batch ≡ Some b → FitsItsTypes (of_shard v.shard (shard_calls.Learn b))
        → IsCalled state honest moment left_since store shards (shard v.shard) was is old new
        → Answered state honest moment left_since was (of_shard v.shard (shard_calls.Learn b)) (from_shard (told_by.Learn back x)) is
        → LearnGives (record v { batch = None; flushed = false }) (learning again) back x progress → Here progress
    by_learn was is b back again (Ok all) progress has fits c so gives =
        let it = (learn_told state honest moment left_since counts_now only_now store shards old new now standing v.shard was is b back (Ok all) c so).1 in
        let quiet = learns_quietly store shards (stops state honest store shards old.devices) state honest now it.0 v.shard r standing.stands it.2 b (on.right b has) it.1 all it.3 in
        subst Here (sym gives) (_, it.4 quiet.1, none_right)
    by_learn was is b back again (Err e) progress has fits c so gives =
        let it = learn_told state honest moment left_since counts_now only_now store shards old new now standing v.shard was is b back (Err e) c so in
        let held : batch_of r.holds ≡ Some b = on.held ∙ has in
        ⊎_elim
        (λ fails. by_full (fails.0, fails.1, λ ran is_then. fails.2 r ran is_then (on.calls_shard c.before.there)) (one_right back (subst (IsRightBatch now.machine) (sym it.0) (on.right b has))))
        (λ refused. by_full (
          now.nodes,
          still_of state honest moment left_since store shards old new now standing (shard v.shard) refused.0,
          λ ran is_then. refused_learns_have_cause store shards (stops state honest store shards old.devices) state honest now ran refused.1.0 v.shard b e r standing.stands refused.1.1 on.runs held refused.1.2 fits.0 fits.1
              (on.calls_shard c.before.there).1 on.lets refused.1.3.0 refused.1.3.1,
        ) (one_right back (subst (IsRightBatch now.machine) (sym it.0) (on.right b has))))
        it.1
      where
        is_full : (f : Refusal) → (f ≡ Full) ⊎ (f ≢ Full)
        is_full Full = inl refl
        is_full f = inr (λ is. cc)

        by_full : Here (Refused e) → IfHeld (Some back) (IsRightBatch now.machine) → Here progress
        by_full refused right = ⊎_elim
            (λ is. ⊎_elim
            (λ twice. subst Here (sym (gives.1 (inr (ap learning twice)))) refused)
            (λ once. subst Here (sym (gives.0 is (ap learning once))) (refused.0, refused.1, right))
            (cases_Bool again))
            (λ other. subst Here (sym (gives.1 (inl other))) refused)
            (is_full e)

    by_flush : (was is : NodeView D) (x : Result (Unit {0}) Refusal) (progress : Progress) → IsCalled state honest moment left_since store shards (shard v.shard) was is old new
        → Answered state honest moment left_since was (of_shard v.shard shard_calls.Flush) (from_shard (told_by.Flush x)) is
        → Gives (record { held = v; awaited = flushing }) (from_shard (told_by.Flush x)) progress → Here progress
    by_flush was is (Ok done) progress c so gives =
        let it = shard_flushed state honest moment left_since counts_now only_now store shards old new now standing v.shard was is (Ok done) c so in
        subst Here (sym gives) (it.0, it.1, on.right)
    by_flush was is (Err e) progress c so gives = subst Here (sym gives)
        (fails_here (shard v.shard) e (on.calls_shard c.before.there) (shard_flushed state honest moment left_since counts_now only_now store shards old new now standing v.shard was is (Err e) c so))

    -- by the reply that belongs to the call
    learned_answered : (reply : Reply) (progress : Progress) (was is : NodeView D) → IsReplyTo (of_shard v.shard shard_calls.Learned) reply → IsCalled state honest moment left_since store shards (shard v.shard) was is old new
        → Answered state honest moment left_since was (of_shard v.shard shard_calls.Learned) reply is → Gives (record { held = v; awaited = learned }) reply progress → Here progress
    learned_answered (from_shard (told_by.Learned x)) progress was is belongs c so gives = by_learned was is x progress c so gives
    learned_answered reply progress was is belongs c so gives = absurd belongs

    flush_answered : (reply : Reply) (progress : Progress) (was is : NodeView D) → IsReplyTo (of_shard v.shard shard_calls.Flush) reply → IsCalled state honest moment left_since store shards (shard v.shard) was is old new
        → Answered state honest moment left_since was (of_shard v.shard shard_calls.Flush) reply is → Gives (record { held = v; awaited = flushing }) reply progress → Here progress
    flush_answered (from_shard (told_by.Flush x)) progress was is belongs c so gives = by_flush was is x progress c so gives
    flush_answered reply progress was is belongs c so gives = absurd belongs

    learn_answered : (b : BatchValue) (again : Bool) (reply : Reply) (progress : Progress) (was is : NodeView D) → v.batch ≡ Some b → FitsItsTypes (of_shard v.shard (shard_calls.Learn b))
        → IsReplyTo (of_shard v.shard (shard_calls.Learn b)) reply → IsCalled state honest moment left_since store shards (shard v.shard) was is old new
        → Answered state honest moment left_since was (of_shard v.shard (shard_calls.Learn b)) reply is → Gives (record { held = record v { batch = None; flushed = false }; awaited = learning again }) reply progress → Here progress
    learn_answered b again (from_shard (told_by.Learn back x)) progress was is has fits belongs c so gives = by_learn was is b back again x progress has fits c so gives
    learn_answered b again reply progress was is has fits belongs c so gives = absurd belongs

    batch_answered : (from : ℕ) (reply : Reply) (progress : Progress) (was is : NodeView D) → from < v.to → IsReplyTo (of_coordinator (coordinator_calls.Batch from v.to)) reply
        → IsCalled state honest moment left_since store shards coordinator was is old new
        → Answered state honest moment left_since was (of_coordinator (coordinator_calls.Batch from v.to)) reply is → Gives (record { held = record v { from = None }; awaited = decisions }) reply progress → Here progress
    batch_answered from (from_coordinator (told.Batch x)) progress was is low belongs c so gives = by_batch was is from x progress low c so gives
    batch_answered from reply progress was is low belongs c so gives = absurd belongs

    belongs_here : (call : NodeCall) (reply : Reply) (was is : NodeView D) → IsCalled state honest moment left_since store shards (called call) was is old new → IsOwed shards call
        → Answered state honest moment left_since was call reply is → IsReplyTo call reply
    belongs_here call reply was is c owed so = belongs_to state honest moment left_since store shards old new call reply was is c owed so

    -- a call of the shard
    by_shard : (call : ShardCall) (then : CatchUpCallValue) (reply : Reply) (progress : Progress) (was is : NodeView D) → AsksShard v call then → FitsItsTypes (of_shard v.shard call)
        → IsCalled state honest moment left_since store shards (shard v.shard) was is old new → Answered state honest moment left_since was (of_shard v.shard call) reply is → Gives then reply progress → Here progress
    by_shard shard_calls.Learned then reply progress was is asks fits c so gives =
        learned_answered reply progress was is (belongs_here (of_shard v.shard shard_calls.Learned) reply was is c tt so) c so (subst (λ (t : CatchUpCallValue). Gives t reply progress) asks gives)
    by_shard (shard_calls.Learn b) then reply progress was is asks fits c so gives =
        learn_answered b v.flushed reply progress was is asks.0 fits (belongs_here (of_shard v.shard (shard_calls.Learn b)) reply was is c tt so) c so
        (subst (λ (t : CatchUpCallValue). Gives t reply progress) asks.1 gives)
    by_shard shard_calls.Flush then reply progress was is asks fits c so gives =
        flush_answered reply progress was is (belongs_here (of_shard v.shard shard_calls.Flush) reply was is c tt so) c so (subst (λ (t : CatchUpCallValue). Gives t reply progress) asks gives)
    by_shard call then reply progress was is asks fits c so gives = absurd asks

    -- and one of the coordinator
    by_coordinator : (call : CoordinatorCall) (then : CatchUpCallValue) (reply : Reply) (progress : Progress) (was is : NodeView D) → AsksCoordinator v call then
        → IsCalled state honest moment left_since store shards coordinator was is old new → Answered state honest moment left_since was (of_coordinator call) reply is → Gives then reply progress → Here progress
    by_coordinator (coordinator_calls.Batch from to) then reply progress was is asks c so gives =
        let low = subst (λ (t : ℕ). from < t) asks.2 asks.1 in
        let so_here = subst (λ (t : ℕ). Answered state honest moment left_since was (of_coordinator (coordinator_calls.Batch from t)) reply is) asks.2 so in
        batch_answered from reply progress was is low (belongs_here (of_coordinator (coordinator_calls.Batch from v.to)) reply was is c (omega (arith, low)) so_here) c so_here
        (subst (λ (t : CatchUpCallValue). Gives t reply progress) asks.3 gives)
    by_coordinator call then reply progress was is asks c so gives = absurd asks

    -- whichever call it is
    pub caught_up : (call : NodeCall) (then : CatchUpCallValue) (reply : Reply) (progress : Progress) (was is : NodeView D) → Asks v call then → FitsItsTypes call
        → IsCalled state honest moment left_since store shards (called call) was is old new → Answered state honest moment left_since was call reply is → Gives then reply progress → Here progress
    caught_up (of_coordinator call) then reply progress was is asks fits c so gives = by_coordinator call then reply progress was is asks c so gives
    caught_up (of_shard s call) then reply progress was is asks fits c so gives = by_shard call then reply progress was is asks.1
        (subst (λ (k : ℕ). FitsItsTypes (of_shard k call)) asks.0 fits) (subst (λ (k : ℕ). IsCalled state honest moment left_since store shards (shard k) was is old new) asks.0 c)
        (subst (λ (k : ℕ). Answered state honest moment left_since was (of_shard k call) reply is) asks.0 so) gives

-- while a call is out, with what is held then of decisions, of the call's name and of what it carries
abbrev on_the_way : CatchUpValue → CatchUpValue → CatchUpValue
on_the_way v out = record { shard = v.shard; to = v.to; batch = out.batch; next = out.next; from = out.from; flushed = out.flushed }

-- the shard and the place are the same
pub same_way : (v : CatchUpValue) (call : NodeCall) (then : CatchUpCallValue) → Asks v call then → then.held ≡ on_the_way v then.held
same_way v (of_coordinator call) then asks = by_call call asks
  where
    by_call : (c : CoordinatorCall) → AsksCoordinator v c then → then.held ≡ on_the_way v then.held
    by_call (coordinator_calls.Batch from to) is = subst (λ (t : CatchUpCallValue). t.held ≡ on_the_way v t.held) (sym is.3) refl
    by_call c is = absurd is
same_way v (of_shard s call) then asks = by_call call asks.1
  where
    by_call : (c : ShardCall) → AsksShard v c then → then.held ≡ on_the_way v then.held
    by_call shard_calls.Learned is = subst (λ (t : CatchUpCallValue). t.held ≡ on_the_way v t.held) (sym is) refl
    by_call (shard_calls.Learn b) is = subst (λ (t : CatchUpCallValue). t.held ≡ on_the_way v t.held) (sym is.1) refl
    by_call shard_calls.Flush is = subst (λ (t : CatchUpCallValue). t.held ≡ on_the_way v t.held) (sym is) refl
    by_call c is = absurd is
