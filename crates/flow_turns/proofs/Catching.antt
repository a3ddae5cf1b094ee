-- The catch-up of a shard for a write: each of its calls is a turn.
use Rattle.std.proofs.Common.{◌≡◌, ⊎_elim, ◌≤◌, ◌<◌, ℕ, Bool, false, List, Result, Ok, Err, Some, None, refl, sym, ◌∙◌, ap, subst}
use Rattle.std.specs.Prelude.{MatchOption}
use Rattle.std.proofs.lemmas.Bool.{cases_lt}
use Rattle.flow_turns.proofs.WriteWords.{Answered, Calls, CatchUpGives, CatchUpValue, FailsQuietly, GivesTo, GoesOn, GoesOut, HasItsCause, HasShard, HoldsLess, IfHeld, IntentValue, IsCalled, IsOnItsWay, IsQuietlyMade, IsReplyTo, IsRightBatch, Machine, Moment, NodeName, NodeView, Nodes, ProgressGives, Refusal, Reply, Running, StandsOver, State, Store, TurnsBy, WriteHolds, WriteView, answered_belongs, coordinator, from_shard, left, of_coordinator, of_shard, onward, outward, shard}
use Rattle.records.specs.Replays.{Identity}
use Rattle.calls.specs.Asking.{MayAsk, MayAskCoordinator, MayAskShard}
use Rattle.calls.specs.Views as views
use Rattle.calls.specs.declared.call.CoordinatorCall.{CoordinatorCall}
use Rattle.calls.specs.declared.call.ShardCall.{ShardCall}
use Rattle.calls.specs.declared.call.ShardCall.TheVariants as shard_calls
use Rattle.calls.specs.declared.reply.ShardReply.TheVariants as told_by
use Rattle.catch_up.specs.Held.{learned}
use Rattle.commit_flow.specs.Answering.{GoesToPrepare}
use Rattle.commit_flow.specs.WriteHolds as waits
use Rattle.flow_turns.specs.StoreCalls.{IsNamed}
use Rattle.flow_turns.proofs.Asked.{learned_told}
use Rattle.flow_turns.proofs.Going.{IsFlow, Promises, asks_own, calls_shard, fails_out, flow_there, goes_out, holds_is, keeps}

-- a node that is there may be asked what it is owed
pub may_ask_coordinator : {D : Type 0} (store shards : ℕ) (v : NodeView D) (call : CoordinatorCall) → IsNamed store shards v coordinator → MayAskCoordinator shards call → MayAsk v (of_coordinator call)
may_ask_coordinator store shards (views.coordinator v) call is owed = subst (λ (i : Identity). MayAskCoordinator i.shards call) (sym is) owed
may_ask_coordinator store shards (views.shard v) call is owed = absurd is
may_ask_coordinator store shards (views.refused e a b) call is owed = tt

pub may_ask_shard : {D : Type 0} (store shards s : ℕ) (v : NodeView D) (call : ShardCall) → IsNamed store shards v (shard s) → MayAskShard shards s call → MayAsk v (of_shard s call)
may_ask_shard store shards s (views.coordinator v) call is owed = absurd is
may_ask_shard store shards s (views.shard v) call is owed = (ap (λ (i : Identity). i.node) is, subst (λ (i : Identity). MayAskShard i.shards s call) (sym is) owed)
may_ask_shard store shards s (views.refused e a b) call is owed = tt

pub no_batch : (m : Machine) → IfHeld None (IsRightBatch m)
no_batch m b is = absurd cc

-- on its way out it holds no decisions for a shard
pub less_out : (h : WriteHolds) (e : Refusal) → HoldsLess h (record h { way = outward (Some e); batch = None })
less_out h e = record {
  id = refl;
  intent = λ i is. is;
  tickets = λ t has. has;
  votes = λ v has. has;
  decided = refl;
  batch = λ b is. absurd cc;
  verdict = λ id is. is;
  gave = λ is. let both : outward (Some e) ≡ onward = is in absurd cc;
}

module _ {D : Type 0} (state : D → State) (honest : D → Type 0) (moment : D → ℕ) (left_since : D → ℕ → List ℕ → Type 0)
    (counts_now : (d : D) (t : ℕ) (c : List ℕ) → honest d → t ≤ moment d → left (state d) c → left_since d t c) (only_now : (d : D) (c : List ℕ) → honest d → left_since d (moment d) c → left (state d) c)
    (store shards : ℕ) (old new : Store D) (slot : ℕ) (is_cancelled : Bool) (v later : WriteView) (number : ℕ) (now : Moment) (standing : StandsOver state honest store shards old now) where
  abbrev Goal : WriteView → Type 0
  Goal = Promises state honest moment left_since store shards old new now standing number slot is_cancelled v

  abbrev Made : Nodes → Machine → Type 0
  Made = IsQuietlyMade state honest moment left_since store shards old new now standing

  abbrev Fails : NodeName → Refusal → Type 0
  Fails = FailsQuietly state honest moment left_since store shards old new now standing

  module _ (r : Running) (flow : IsFlow state honest moment left_since store shards old new now standing number slot is_cancelled v r) (way : IsOnItsWay v) where
    -- the catch-up goes on, with decisions for the shard or without
    pub goes_next : (next : Nodes) (m : Machine) (held : CatchUpValue) → Made next m → IfHeld held.batch (IsRightBatch m) → GoesOn (record v.holds { batch = held.batch }) later → Goal later
    goes_next next m held quiet right_batch is = subst Goal (sym is)
        (keeps state honest moment left_since store shards old new now standing number slot is_cancelled v r flow next m quiet held.batch None false way.2.0.write.id way.2.2 right_batch)

    -- the shard is caught up, and prepares its part next
    pub is_there : (next : Nodes) (m : Machine) (s : ℕ) → Made next m → GoesToPrepare s (record v.holds { batch = None }) later → Goal later
    is_there next m s quiet is = subst Goal (sym is)
        (keeps state honest moment left_since store shards old new now standing number slot is_cancelled v r flow next m quiet None (Some s) false way.2.0.write.id way.2.2 (no_batch m))

    -- a call failed, and the write goes out
    pub fails_at : (n : NodeName) (e : Refusal) → Fails n e → Calls shards r.asked r.holds n → GoesOut v.holds e later → Goal later
    fails_at n e failed calls is = subst Goal (sym is)
        (fails_out state honest moment left_since store shards old new now standing number slot is_cancelled v r flow n e (record v.holds { way = outward (Some e); batch = None }) way.2.0.write.id failed calls way.2.2 way.1
        (less_out v.holds e) refl)

    -- or one was refused
    pub refused_at : (next : Nodes) (m : Machine) (e : Refusal) → (quiet : Made next m) → ((ran : Moment) → ran.nodes ≡ next → HasItsCause shards quiet.0.node now ran r e) → GoesOut v.holds e later → Goal later
    refused_at next m e quiet cause is = subst Goal (sym is)
        (goes_out state honest moment left_since store shards old new now standing number slot is_cancelled v r flow next m quiet (record v.holds { way = outward (Some e); batch = None }) way.2.0.write.id e way.2.2 way.1
        (less_out v.holds e) refl cause)

    pub calls_this : (s : ℕ) → s < shards → HasShard shards v s → Calls shards r.asked r.holds (shard s)
    calls_this s there has = calls_shard shards s r v.holds has.0.write (asks_own state honest moment left_since store shards old new now standing number slot is_cancelled v r flow has.0 has.1 own_id)
        (holds_is state honest moment left_since store shards old new now standing number slot is_cancelled v r flow) own_id there has.3
      where
        same_intent : way.2.0 ≡ has.0
        same_intent = let both : Some way.2.0 ≡ Some has.0 = sym way.2.1 ∙ has.1 in cc

        own_id : v.holds.id ≡ Some has.0.write.id
        own_id = way.2.2 ∙ ap (λ (i : IntentValue). Some i.write.id) same_intent

    learned_by : (s : ℕ) (was is : NodeView D) (answer : Result ℕ Refusal) (mid : WriteView) → mid.holds ≡ v.holds → s < shards → HasShard shards v s
        → IsCalled state honest moment left_since store shards (shard s) was is old new
        → Answered state honest moment left_since was (of_shard s shard_calls.Learned) (from_shard (told_by.Learned answer)) is
        → CatchUpGives mid learned (from_shard (told_by.Learned answer)) later → Goal later
    learned_by s was is (Ok n) mid same there has called so gives =
        let tells = learned_told state honest moment left_since counts_now only_now store shards old new now standing s was is (Ok n) called so in
        ⊎_elim
        (λ low.
        let then = subst (λ p. ProgressGives mid gives.call.held.shard p later) (gives.gives.1 low) gives.then_gives in
        goes_next now.nodes now.machine (record gives.call.held { batch = None }) tells.0 (no_batch now.machine) (subst (λ (h : WriteHolds). GoesOn (record h { batch = None }) later) same then))
        (λ high.
        let then = subst (λ p. ProgressGives mid gives.call.held.shard p later) (gives.gives.0 high) gives.then_gives in
        is_there now.nodes now.machine gives.call.held.shard tells.0 (subst (λ (h : WriteHolds). GoesToPrepare gives.call.held.shard (record h { batch = None }) later) same then))
        (cases_lt n gives.call.held.to)
    learned_by s was is (Err e) mid same there has called so gives =
        let failed = learned_told state honest moment left_since counts_now only_now store shards old new now standing s was is (Err e) called so in
        let then = subst (λ p. ProgressGives mid gives.call.held.shard p later) gives.gives gives.then_gives in
        fails_at (shard s) e failed (calls_this s there has) (subst (λ (h : WriteHolds). GoesOut h e later) same then)

    learned_reply : (s : ℕ) (was is : NodeView D) (reply : Reply) (mid : WriteView) → mid.holds ≡ v.holds → s < shards → HasShard shards v s → IsReplyTo (of_shard s shard_calls.Learned) reply
        → IsCalled state honest moment left_since store shards (shard s) was is old new
        → Answered state honest moment left_since was (of_shard s shard_calls.Learned) reply is → CatchUpGives mid learned reply later → Goal later
    learned_reply s was is (from_shard (told_by.Learned answer)) mid same there has fits called so gives = learned_by s was is answer mid same there has called so gives
    learned_reply s was is reply mid same there has fits called so gives = absurd fits

module _ {D : Type 0} (state : D → State) (honest : D → Type 0) (moment : D → ℕ) (left_since : D → ℕ → List ℕ → Type 0)
    (counts_now : (d : D) (t : ℕ) (c : List ℕ) → honest d → t ≤ moment d → left (state d) c → left_since d t c) (only_now : (d : D) (c : List ℕ) → honest d → left_since d (moment d) c → left (state d) c)
    (store shards : ℕ) where
  pub learned_turns : (s : ℕ) → TurnsBy state honest moment left_since store shards (of_shard s shard_calls.Learned)
  learned_turns s old new slot is_cancelled v later c number now standing =
      let flow = flow_there state honest moment left_since store shards old new now standing number slot is_cancelled v _ c.slots in
      let gives = subst (λ (x : WriteView). MatchOption x.awaited ⊥ (λ awaited. GivesTo x awaited c.reply later)) c.asks.1.2 c.gives in
      let fits = answered_belongs state honest moment left_since c.was (of_shard s shard_calls.Learned) c.reply c.is (may_ask_shard store shards s c.was shard_calls.Learned c.node.before.named c.asks.0) c.answered in
      learned_reply state honest moment left_since counts_now only_now store shards old new slot is_cancelled v later number now standing flow.0 flow.1 c.asks.1.0
      s c.was c.is c.reply (record v { awaited = Some (waits.catch_up learned) }) refl c.node.before.there c.asks.1.1 fits c.node c.answered gives c.slots
