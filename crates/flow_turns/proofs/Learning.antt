-- Decisions that a write fetches for a shard, and lets it learn.
use Rattle.std.proofs.Common.{◌≡◌, ◌≢◌, ◌⊎◌, inl, inr, ⊎_elim, ◌≤◌, ◌<◌, ◌+◌, ℕ, Bool, true, false, List, length, Result, Ok, Err, Some, None, sym, ◌∙◌, ap, subst, arith}
use Rattle.std.specs.Prelude.{MatchOption}
use Rattle.flow_turns.proofs.WriteWords.{Answered, BatchValue, CatchUpGives, CatchUpValue, Collected, CoordinatorView, Full, Future, GivesTo, GoesOn, HasItsCause, HasShard, IfHeld, IsCalled, IsOnItsWay, IsQuietlyMade, IsReplyTo, IsRightBatch, IsSeen, Machine, Moment, NoMemory, NodeView, Nodes, ProgressGives, Refusal, Reply, Running, StandsOver, State, Store, TakesMemory, TurnsBy, WriteView, answered_belongs, behind_shard, coordinator, end_of, from_coordinator, from_shard, greatest_number, left, of_coordinator, of_shard, shard, still_of, stops}
use Rattle.decisions.specs.Coordinators.{kept_of}
use Rattle.calls.specs.declared.call.CoordinatorCall.TheVariants as coordinator_calls
use Rattle.calls.specs.declared.call.ShardCall.TheVariants as shard_calls
use Rattle.calls.specs.declared.reply.CoordinatorReply.TheVariants as told
use Rattle.calls.specs.declared.reply.ShardReply.TheVariants as told_by
use Rattle.catch_up.specs.Held.{decisions, learning}
use Rattle.commit_flow.specs.WriteHolds as waits
use Rattle.commit_flow.specs.Writing.{IsCaughtUpTo}
use Rattle.stores.specs.Causes.{LetsLearn}
use Rattle.turns.specs.QuietTurns.{batch_of}
use Rattle.turns.proofs.CoordinatorCalls.{batch_answers, batch_has_cause}
use Rattle.turns.proofs.ShardLearnSeam.{learns_quietly, refused_learns_have_cause}
use Rattle.flow_turns.proofs.Asked.{LearnComes, batch_told, learn_told}
use Rattle.flow_turns.proofs.Catching.{calls_this, fails_at, goes_next, may_ask_coordinator, may_ask_shard, no_batch, refused_at}
use Rattle.flow_turns.proofs.Going.{IsFlow, Promises, asked_is, calls_coordinator, flow_there, holds_is, right}
use Rattle.refusal.proofs.Cases.{is_full, is_collected}

module _ {D : Type 0} (state : D → State) (honest : D → Type 0) (moment : D → ℕ) (left_since : D → ℕ → List ℕ → Type 0)
    (counts_now : (d : D) (t : ℕ) (c : List ℕ) → honest d → t ≤ moment d → left (state d) c → left_since d t c) (only_now : (d : D) (c : List ℕ) → honest d → left_since d (moment d) c → left (state d) c)
    (store shards : ℕ) (old new : Store D) (slot : ℕ) (is_cancelled : Bool) (v later : WriteView) (number : ℕ) (now : Moment) (standing : StandsOver state honest store shards old now)
    (r : Running) (flow : IsFlow state honest moment left_since store shards old new now standing number slot is_cancelled v r) (way : IsOnItsWay v) where
  abbrev Goal : WriteView → Type 0
  Goal = Promises state honest moment left_since store shards old new now standing number slot is_cancelled v

  abbrev Made : Nodes → Machine → Type 0
  Made = IsQuietlyMade state honest moment left_since store shards old new now standing

  next_with : (next : Nodes) (m : Machine) (held : CatchUpValue) → Made next m → IfHeld held.batch (IsRightBatch m) → GoesOn (record v.holds { batch = held.batch }) later → Goal later
  next_with = goes_next state honest moment left_since counts_now only_now store shards old new slot is_cancelled v later number now standing r flow way

  module _ (from to : ℕ) (up_to : IsCaughtUpTo v to) (ordered : from ≤ to) (was is : NodeView D) (called : IsCalled state honest moment left_since store shards coordinator was is old new) where
    within : to ≤ now.machine.kept
    within =
        let own = (right state honest moment left_since store shards old new now standing number slot is_cancelled v r flow).own way.2.0.write.id way.2.2 in
        let kept = (own.intent up_to.0 up_to.1).1.kept in
        omega (arith, kept, up_to.2)

    batch_by : (answer : Result BatchValue Refusal) → Answered state honest moment left_since was (of_coordinator (coordinator_calls.Batch from to)) (from_coordinator (told.Batch answer)) is
        → (gives : CatchUpGives (record v { awaited = Some (waits.catch_up decisions) }) decisions (from_coordinator (told.Batch answer)) later) → Goal later
    batch_by (Ok b) so gives =
        let tells = batch_told state honest moment left_since counts_now only_now store shards old new now standing was is from to (Ok b) called so in
        let answers = batch_answers store shards (stops state honest store shards old.devices) D now tells.1.0 from to b standing.stands tells.1.1 ordered tells.1.2 in
        next_with now.nodes now.machine (record gives.call.held { batch = Some b }) tells.0
        (λ x is_x. let same : b ≡ x = cc in subst (IsRightBatch now.machine) same answers.0)
        (subst (λ p. ProgressGives v gives.call.held.shard p later) gives.gives gives.then_gives)
    batch_by (Err e) so gives = ⊎_elim
        (λ failed. ⊎_elim
        (λ forgotten. anew failed.0 now.machine failed.1 forgotten)
        (λ other. fails_at state honest moment left_since counts_now only_now store shards old new slot is_cancelled v later number now standing r flow way coordinator e failed
        (calls_coordinator shards r _ _ (asked_is state honest moment left_since store shards old new now standing number slot is_cancelled v r flow))
        (subst (λ p. ProgressGives v gives.call.held.shard p later) (gives.gives.1 other) gives.then_gives))
        (is_collected e))
        (λ tells. by_cause tells.0 tells.1.0 tells.1.1 tells.1.2)
        (batch_told state honest moment left_since counts_now only_now store shards old new now standing was is from to (Err e) called so)
      where
        anew : (next : Nodes) (m : Machine) → Made next m → e ≡ Collected → Goal later
        anew next m quiet forgotten = next_with next m (record gives.call.held { batch = None }) quiet (no_batch m)
            (subst (λ p. ProgressGives v gives.call.held.shard p later) (gives.gives.0 forgotten) gives.then_gives)

        by_cause : Made now.nodes now.machine → (c : CoordinatorView D) → IsSeen now.nodes c
            → ((e ≡ Future) × (end_of (kept_of c) < to)) ⊎ (((e ≡ Collected) × (from < (kept_of c).horizon)) ⊎ (e ≡ NoMemory)) → Goal later
        by_cause quiet c seen (inl future) = absurd ((batch_has_cause store shards (stops state honest store shards old.devices) D now now c r from to standing.stands seen).0 within future.1)
        by_cause quiet c seen (inr (inl collected)) = anew now.nodes now.machine quiet collected.0
        by_cause quiet c seen (inr (inr memory)) = refused_at state honest moment left_since counts_now only_now store shards old new slot is_cancelled v later number now standing r flow way now.nodes now.machine e quiet
            (λ ran same. subst (HasItsCause shards quiet.0.node now ran r) (sym memory)
            (inl (subst TakesMemory (sym (asked_is state honest moment left_since store shards old new now standing number slot is_cancelled v r flow)) tt)))
            (subst (λ p. ProgressGives v gives.call.held.shard p later) (gives.gives.1 (λ bad. let both : NoMemory ≡ Collected = sym memory ∙ bad in cc)) gives.then_gives)

    batch_reply : (reply : Reply) → IsReplyTo (of_coordinator (coordinator_calls.Batch from to)) reply → Answered state honest moment left_since was (of_coordinator (coordinator_calls.Batch from to)) reply is
        → CatchUpGives (record v { awaited = Some (waits.catch_up decisions) }) decisions reply later → Goal later
    batch_reply (from_coordinator (told.Batch answer)) fits so gives = batch_by answer so gives
    batch_reply reply fits so gives = absurd fits

  module _ (s : ℕ) (b : BatchValue) (there : s < shards) (has : HasShard shards v s) (held : v.holds.batch ≡ Some b) (few : length b.writes ≤ 256) (within_places : b.from + length b.writes ≤ greatest_number)
      (was is : NodeView D) (called : IsCalled state honest moment left_since store shards (shard s) was is old new) (again : Bool) where
    abbrev mid : WriteView
    mid = record v { holds = record v.holds { batch = None }; awaited = Some (waits.catch_up (learning again)) }

    right_now : IsRightBatch now.machine b
    right_now = (right state honest moment left_since store shards old new now standing number slot is_cancelled v r flow).batch b held

    right_back : (back : BatchValue) → back ≡ b → IfHeld (Some back) (IsRightBatch now.machine)
    right_back back same x is_x = let both : b ≡ x = sym same ∙ (let one : back ≡ x = cc in one) in subst (IsRightBatch now.machine) both right_now

    learn_by : (back : BatchValue) (answer : Result Bool Refusal) → Answered state honest moment left_since was (of_shard s (shard_calls.Learn b)) (from_shard (told_by.Learn back answer)) is
        → CatchUpGives mid (learning again) (from_shard (told_by.Learn back answer)) later → Goal later
    learn_by back (Ok all) so gives =
        let tells = (learn_told state honest moment left_since counts_now only_now store shards old new now standing s was is b back (Ok all) called so).1 in
        let law = learns_quietly store shards (stops state honest store shards old.devices) state honest now tells.0 s r standing.stands tells.2 b right_now tells.1 all tells.3 in
        next_with (behind_shard s now.nodes tells.1) now.machine (record gives.call.held { batch = None }) (tells.4 law.1) (no_batch now.machine)
        (subst (λ p. ProgressGives mid gives.call.held.shard p later) gives.gives gives.then_gives)
    learn_by back (Err e) so gives = by_again (is_full e) again gives.is_awaited
      where
        tells : (back ≡ b) × LearnComes state honest moment left_since counts_now only_now store shards old new now standing s b (Err e)
        tells = learn_told state honest moment left_since counts_now only_now store shards old new now standing s was is b back (Err e) called so

        -- what it comes to if the write goes out
        out : (e ≢ Full) ⊎ (gives.call.awaited ≡ learning true) → Goal later
        out why =
            let then = subst (λ p. ProgressGives mid gives.call.held.shard p later) (gives.gives.1 why) gives.then_gives in
            let calls = calls_this state honest moment left_since counts_now only_now store shards old new slot is_cancelled v later number now standing r flow way s there has in
            ⊎_elim
            (λ failed. fails_at state honest moment left_since counts_now only_now store shards old new slot is_cancelled v later number now standing r flow way (shard s) e failed calls then)
            (λ refused. refused_at state honest moment left_since counts_now only_now store shards old new slot is_cancelled v later number now standing r flow way now.nodes now.machine e
            (still_of state honest moment left_since store shards old new now standing (shard s) refused.0)
            (λ ran same. (refused_learns_have_cause store shards (stops state honest store shards old.devices) state honest now ran refused.1.0 s b e r standing.stands refused.1.1 flow.running
            (ap batch_of (holds_is state honest moment left_since store shards old new now standing number slot is_cancelled v r flow) ∙ held) refused.1.2 few within_places calls.1
            (subst LetsLearn (sym (asked_is state honest moment left_since store shards old new now standing number slot is_cancelled v r flow)) tt) refused.1.3.0 refused.1.3.1).0) then)
            tells.1

        wait : e ≡ Full → gives.call.awaited ≡ learning false → Goal later
        wait full first =
            let then = subst (λ p. ProgressGives mid gives.call.held.shard p later) (gives.gives.0 full first) gives.then_gives in
            ⊎_elim
            (λ failed. next_with failed.0 now.machine (record gives.call.held { batch = Some back }) failed.1 (right_back back tells.0) then)
            (λ refused. next_with now.nodes now.machine (record gives.call.held { batch = Some back }) refused.0 (right_back back tells.0) then)
            tells.1

        by_again : (e ≡ Full) ⊎ (e ≢ Full) → (second : Bool) → gives.call.awaited ≡ learning second → Goal later
        by_again (inl full) true at = out (inr at)
        by_again (inl full) false at = wait full at
        by_again (inr other) second at = out (inl other)

    learn_reply : (reply : Reply) → IsReplyTo (of_shard s (shard_calls.Learn b)) reply → Answered state honest moment left_since was (of_shard s (shard_calls.Learn b)) reply is
        → CatchUpGives mid (learning again) reply later → Goal later
    learn_reply (from_shard (told_by.Learn back answer)) fits so gives = learn_by back answer so gives
    learn_reply reply fits so gives = absurd fits

module _ {D : Type 0} (state : D → State) (honest : D → Type 0) (moment : D → ℕ) (left_since : D → ℕ → List ℕ → Type 0)
    (counts_now : (d : D) (t : ℕ) (c : List ℕ) → honest d → t ≤ moment d → left (state d) c → left_since d t c) (only_now : (d : D) (c : List ℕ) → honest d → left_since d (moment d) c → left (state d) c)
    (store shards : ℕ) where
  pub batch_turns : (from to : ℕ) → TurnsBy state honest moment left_since store shards (of_coordinator (coordinator_calls.Batch from to))
  batch_turns from to old new slot is_cancelled v later c number now standing =
      let flow = flow_there state honest moment left_since store shards old new now standing number slot is_cancelled v _ c.slots in
      let gives = subst (λ (x : WriteView). MatchOption x.awaited ⊥ (λ awaited. GivesTo x awaited c.reply later)) c.asks.1.1 c.gives in
      let fits = answered_belongs state honest moment left_since c.was (of_coordinator (coordinator_calls.Batch from to)) c.reply c.is
      (may_ask_coordinator store shards c.was (coordinator_calls.Batch from to) c.node.before.named c.asks.0) c.answered in
      batch_reply state honest moment left_since counts_now only_now store shards old new slot is_cancelled v later number now standing flow.0 flow.1 c.asks.1.0.0 from to c.asks.1.0.1 c.asks.0 c.was c.is c.node
      c.reply fits c.answered gives c.slots

  pub learn_turns : (s : ℕ) (b : BatchValue) → TurnsBy state honest moment left_since store shards (of_shard s (shard_calls.Learn b))
  learn_turns s b old new slot is_cancelled v later c number now standing =
      let flow = flow_there state honest moment left_since store shards old new now standing number slot is_cancelled v _ c.slots in
      let gives = subst (λ (x : WriteView). MatchOption x.awaited ⊥ (λ awaited. GivesTo x awaited c.reply later)) c.asks.1.3.1 c.gives in
      let fits = answered_belongs state honest moment left_since c.was (of_shard s (shard_calls.Learn b)) c.reply c.is (may_ask_shard store shards s c.was (shard_calls.Learn b) c.node.before.named c.asks.0) c.answered in
      learn_reply state honest moment left_since counts_now only_now store shards old new slot is_cancelled v later number now standing flow.0 flow.1 c.asks.1.0 s b c.node.before.there c.asks.1.1 c.asks.1.2
      c.fits.0 c.fits.1 c.was c.is c.node c.asks.1.3.0 c.reply fits c.answered gives c.slots
