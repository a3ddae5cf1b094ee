-- A flush of a node takes its turn, and so does a checkpoint.
use Rattle.std.proofs.Common.{◌≡◌, ◌≤◌, ℕ, Bool, true, false, List, [], ◌∷◌, Option, Some, None, Result, Ok, Err, MatchOption, refl, sym, ap, subst}
use Rattle.std.proofs.lemmas.List.Elements.{All-nil}
use Rattle.std.proofs.lemmas.Option.{same_Some}
use Rattle.flow_turns.proofs.CareWords.{Answered, CareEnd, CareFlow, Collect, Flush, FlushView, Gives, IsCalled, IsQuietlyMade, Learn, Machine, Moment, NodeCall, NodeView, Nodes, Raise, Refusal, Reply, Resolve, Runs, SlotTurns, StandsOver, State, Store, TurnRuns, answers, called, coordinator, coordinator_flushed, done, ended_by, ending, flush, from_coordinator, from_shard, in_slot, left, out, shard, shard_flushed, shown_care, shows, tells, the_flow}
use Rattle.names.specs.declared.node_name.NodeName as names
use Rattle.names.specs.declared.node_name.NodeName.TheVariants.{Coordinator, Shard}
use Rattle.calls.specs.declared.reply.CoordinatorReply.TheVariants as told
use Rattle.calls.specs.declared.reply.ShardReply.TheVariants as told_by
use Rattle.care_flow.specs.Cares as cares
use Rattle.care_flow.specs.Flushing.{FlushFlowValue, FlushStep, flush_of}
use Rattle.stores.specs.Flows.{flushing, to_flush}
use Rattle.stores.specs.Replies.{IsFlushed}
use Rattle.flow_turns.specs.StoreCalls.{name_of}
use Rattle.flow_turns.proofs.Turned.{asked_is, refused_by}
use Rattle.flow_turns.proofs.Checkpointed.{FailsToFlush, coordinator_checkpointed, fails_to_flush, shard_checkpointed}
use Rattle.flow_turns.specs.CareTurns.{FlushesTurn}

module _ {D : Type 0} (state : D → State) (honest : D → Type 0) (moment : D → ℕ) (left_since : D → ℕ → List ℕ → Type 0)
    (counts_now : (d : D) (t : ℕ) (c : List ℕ) → honest d → t ≤ moment d → left (state d) c → left_since d t c) (only_now : (d : D) (c : List ℕ) → honest d → left_since d (moment d) c → left (state d) c)
    (store shards : ℕ) (old new : Store D) (slot : ℕ) where
  -- it ends by the answer of its node
  module _ (n : names.NodeName) (was is : NodeView D) (turns : SlotTurns slot (shown_care (to_flush (name_of n)) flushing) None old new) (number : ℕ) (now : Moment) (standing : StandsOver state honest store shards old now) where
    abbrev EndsBy : Result (Unit {0}) Refusal → Type 0
    EndsBy x = Runs state honest moment left_since store shards old new now standing number slot (shown_care (to_flush (name_of n)) flushing) None turns (tells (Some (ended_by x)) ∷ [])

    fails : (e : Refusal) → FailsToFlush state honest moment left_since counts_now only_now store shards old new now standing (name_of n) e → EndsBy (Err e)
    fails e (next, quiet, cause) =
        let flow = the_flow state honest moment left_since store shards old new now standing number slot _ None turns in
        let is = asked_is state honest moment left_since store shards old new now standing number slot _ None turns flow.0 flow.1 (to_flush (name_of n)) flow.2 refl refl next now.machine quiet in
        refused_by state honest moment left_since store shards old new now standing number slot _ None turns flow.0 flow.1 (to_flush (name_of n)) flow.2 refl refl next now.machine quiet e refl
        (cause flow.0 (ending now next now.machine flow.0 []) refl is)

    done_well : (next : Nodes) (m : Machine) → IsQuietlyMade state honest moment left_since store shards old new now standing next m → IsFlushed (name_of n) m → (x : Unit {0}) → EndsBy (Ok x)
    done_well next m quiet flushed x =
        let flow = the_flow state honest moment left_since store shards old new now standing number slot _ None turns in
        answers state honest moment left_since store shards old new now standing number slot _ None turns flow.0 flow.1 (to_flush (name_of n)) flow.2 refl refl next m quiet done refl flushed (All-nil _)

  of_coordinator : (was is : NodeView D) (r : Result (Unit {0}) Refusal) → IsCalled state honest moment left_since store shards coordinator was is old new
      → Answered state honest moment left_since was (flush_of false Coordinator) (from_coordinator (told.Flush r)) is → SlotTurns slot (shown_care (to_flush coordinator) flushing) None old new
      → TurnRuns state honest moment left_since store shards old slot (tells (Some (ended_by r)) ∷ []) new
  of_coordinator was is (Ok x) called so turns number now standing =
      let well = coordinator_flushed state honest moment left_since counts_now only_now store shards old new now standing was is (Ok x) called so in
      done_well Coordinator was is turns number now standing well.0 _ well.2 refl x
  of_coordinator was is (Err e) called so turns number now standing =
      fails Coordinator was is turns number now standing e (fails_to_flush state honest moment left_since counts_now only_now store shards old new now standing coordinator e tt
      (coordinator_flushed state honest moment left_since counts_now only_now store shards old new now standing was is (Err e) called so))

  checks_coordinator : (was is : NodeView D) (r : Result (Unit {0}) Refusal) → IsCalled state honest moment left_since store shards coordinator was is old new
      → Answered state honest moment left_since was (flush_of true Coordinator) (from_coordinator (told.Checkpoint r)) is → SlotTurns slot (shown_care (to_flush coordinator) flushing) None old new
      → TurnRuns state honest moment left_since store shards old slot (tells (Some (ended_by r)) ∷ []) new
  checks_coordinator was is (Ok x) called so turns number now standing =
      let well = coordinator_checkpointed state honest moment left_since counts_now only_now store shards old new now standing was is (Ok x) called so in
      done_well Coordinator was is turns number now standing well.0 _ well.2 refl x
  checks_coordinator was is (Err e) called so turns number now standing =
      fails Coordinator was is turns number now standing e (coordinator_checkpointed state honest moment left_since counts_now only_now store shards old new now standing was is (Err e) called so)

  of_shard : (s : ℕ) (was is : NodeView D) (r : Result (Unit {0}) Refusal) → IsCalled state honest moment left_since store shards (shard s) was is old new
      → Answered state honest moment left_since was (flush_of false (Shard s)) (from_shard (told_by.Flush r)) is → SlotTurns slot (shown_care (to_flush (shard s)) flushing) None old new
      → TurnRuns state honest moment left_since store shards old slot (tells (Some (ended_by r)) ∷ []) new
  of_shard s was is (Ok x) called so turns number now standing =
      let well = shard_flushed state honest moment left_since counts_now only_now store shards old new now standing s was is (Ok x) called so in
      done_well (Shard s) was is turns number now standing well.0 _ well.1 tt x
  of_shard s was is (Err e) called so turns number now standing =
      fails (Shard s) was is turns number now standing e (fails_to_flush state honest moment left_since counts_now only_now store shards old new now standing (shard s) e called.before.there
      (shard_flushed state honest moment left_since counts_now only_now store shards old new now standing s was is (Err e) called so))

  checks_shard : (s : ℕ) (was is : NodeView D) (r : Result (Unit {0}) Refusal) → IsCalled state honest moment left_since store shards (shard s) was is old new
      → Answered state honest moment left_since was (flush_of true (Shard s)) (from_shard (told_by.Checkpoint r)) is → SlotTurns slot (shown_care (to_flush (shard s)) flushing) None old new
      → TurnRuns state honest moment left_since store shards old slot (tells (Some (ended_by r)) ∷ []) new
  checks_shard s was is (Ok x) called so turns number now standing =
      let well = shard_checkpointed state honest moment left_since counts_now only_now store shards old new now standing s was is (Ok x) called so in
      done_well (Shard s) was is turns number now standing well.0 _ well.1 tt x
  checks_shard s was is (Err e) called so turns number now standing =
      fails (Shard s) was is turns number now standing e (shard_checkpointed state honest moment left_since counts_now only_now store shards old new now standing s was is (Err e) called so)

  -- whichever node it is, and whatever was answered
  by_reply : (is_checkpoint : Bool) (n : names.NodeName) (reply : Reply) (end : CareEnd) (was is : NodeView D) → IsCalled state honest moment left_since store shards (called (flush_of is_checkpoint n)) was is old new
      → Answered state honest moment left_since was (flush_of is_checkpoint n) reply is → Gives is_checkpoint n reply end → SlotTurns slot (shown_care (to_flush (name_of n)) flushing) None old new
      → TurnRuns state honest moment left_since store shards old slot (tells (Some end) ∷ []) new
  by_reply false Coordinator (from_coordinator (told.Flush r)) end was is c so gives turns =
      subst (λ (x : CareEnd). TurnRuns state honest moment left_since store shards old slot (tells (Some x) ∷ []) new) (sym gives) (of_coordinator was is r c so turns)
  by_reply false (Shard s) (from_shard (told_by.Flush r)) end was is c so gives turns =
      subst (λ (x : CareEnd). TurnRuns state honest moment left_since store shards old slot (tells (Some x) ∷ []) new) (sym gives) (of_shard s was is r c so turns)
  by_reply true Coordinator (from_coordinator (told.Checkpoint r)) end was is c so gives turns =
      subst (λ (x : CareEnd). TurnRuns state honest moment left_since store shards old slot (tells (Some x) ∷ []) new) (sym gives) (checks_coordinator was is r c so turns)
  by_reply true (Shard s) (from_shard (told_by.Checkpoint r)) end was is c so gives turns =
      subst (λ (x : CareEnd). TurnRuns state honest moment left_since store shards old slot (tells (Some x) ∷ []) new) (sym gives) (checks_shard s was is r c so turns)
  by_reply is_checkpoint n reply end was is c so gives turns = absurd gives

  -- its one call
  asked_for : (is_checkpoint : Bool) (n : names.NodeName) (next : Option FlushStep) (call : NodeCall) (mid : FlushFlowValue) (A : Type 0)
      → MatchOption next ((Some call ≡ None) × A) (λ step. (Some call ≡ Some (flush_of is_checkpoint n)) × (mid.seen ≡ out tt flush)) → call ≡ flush_of is_checkpoint n
  asked_for is_checkpoint n None call mid A is = let bad : Some call ≡ None = is.0 in absurd cc
  asked_for is_checkpoint n (Some step) call mid A is = same_Some call (flush_of is_checkpoint n) is.0

  from_flows : (v w : FlushFlowValue) (middle : CareFlow) (call : NodeCall) (reply : Reply) (was is : NodeView D) → cares.NextCall (Flush v) (Some call) middle → cares.Answered middle reply (Flush w)
      → IsCalled state honest moment left_since store shards (called call) was is old new → Answered state honest moment left_since was call reply is
      → SlotTurns slot (shows (Flush v)) (in_slot (shows (Flush w)) w.seen.ended) old new → TurnRuns state honest moment left_since store shards old slot (tells w.seen.ended ∷ []) new
  from_flows v w (Flush mid) call reply was is asks gives c so turns =
      let call_is = asked_for v.is_checkpoint v.node v.seen.next call mid _ asks.2 in
      let end = gives.2 in
      let ended = ap (λ (x : FlushView). x.ended) end.2 in
      subst (λ (o : Option CareEnd). TurnRuns state honest moment left_since store shards old slot (tells o ∷ []) new) (sym ended)
      (by_reply v.is_checkpoint v.node reply end.0 was is
      (subst (λ (x : NodeCall). IsCalled state honest moment left_since store shards (called x) was is old new) call_is c)
      (subst (λ (x : NodeCall). Answered state honest moment left_since was x reply is) call_is so)
      (subst (λ (b : Bool). Gives b v.node reply end.0) asks.1 (subst (λ (k : names.NodeName). Gives mid.is_checkpoint k reply end.0) asks.0 end.1))
      (subst (λ (o : Option CareEnd). SlotTurns slot (shows (Flush v)) (in_slot (shows (Flush w)) o) old new) ended turns))
  from_flows v w (Learn mid) call reply was is asks gives c so turns = absurd asks
  from_flows v w (Resolve mid) call reply was is asks gives c so turns = absurd asks
  from_flows v w (Raise mid) call reply was is asks gives c so turns = absurd asks
  from_flows v w (Collect mid) call reply was is asks gives c so turns = absurd asks

pub flushes_turn : {D : Type 0} (state : D → State) (honest : D → Type 0) (moment : D → ℕ) (left_since : D → ℕ → List ℕ → Type 0)
    (counts_now : (d : D) (t : ℕ) (c : List ℕ) → honest d → t ≤ moment d → left (state d) c → left_since d t c) (only_now : (d : D) (c : List ℕ) → honest d → left_since d (moment d) c → left (state d) c)
    (store shards : ℕ) → FlushesTurn state honest moment left_since store shards
flushes_turn state honest moment left_since counts_now only_now store shards v w old new slot t =
    from_flows state honest moment left_since counts_now only_now store shards old new slot v w t.out t.call t.reply t.was t.is t.asks t.gives t.called_is t.answers t.turns
