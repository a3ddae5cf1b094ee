-- Small turns of a care: the flush of a coordinator whose opening was refused makes its one call, and ends with that refusal. And some that are not turns of
-- it.
use Rattle.std.proofs.Common.{◌≡◌, ◌≢◌, ◌<◌, ℕ, zero, suc, Bool, true, false, List, [], Option, Err, Some, None, if◌then◌else◌, refl, sym, ◌∙◌, ap, subst, arith}
use Rattle.std.proofs.lemmas.Option.{same_Some}
use Rattle.refusal.specs.declared.refusal.Refusal.TheVariants.{Down}
use Rattle.flow_turns.proofs.CareWords.{Answered, CareEnd, CareFlow, Collect, Done, Flush, FlushView, Gives, Learn, NextCall, NodeCall, NodeName, NodeView, Raise, Record, Refused, Reply, Resolve, State, Store, called, coordinator, ended_by, flush, from_coordinator, out, over, ready, shard, shows, tells}
use Rattle.names.specs.declared.node_name.NodeName as names
use Rattle.names.specs.declared.node_name.NodeName.TheVariants as named
use Rattle.calls.specs.Views as views
use Rattle.calls.specs.declared.call.NodeCall.TheVariants.{Coordinator}
use Rattle.calls.specs.declared.call.CoordinatorCall.TheVariants as calls
use Rattle.calls.specs.declared.reply.CoordinatorReply.TheVariants as told
use Rattle.care_flow.specs.Cares as cares
use Rattle.laws.specs.Nodes.{NodeState, down, refused, up}
use Rattle.stores.specs.Stores.{FlowView}
use Rattle.turns.specs.Runs.{refuses}
use Rattle.flow_turns.specs.StoreCalls.{IsNode}
use Rattle.flow_turns.specs.CareTurns.{CareTurns}

-- the flush of the coordinator before its call, with the call out, and after its end
abbrev fresh : CareFlow
fresh = Flush (record { node = named.Coordinator; is_checkpoint = false; seen = ready tt flush })

abbrev asking : CareFlow
asking = Flush (record { node = named.Coordinator; is_checkpoint = false; seen = out tt flush })

abbrev ended_so : CareEnd → CareFlow
ended_so end = Flush (record { node = named.Coordinator; is_checkpoint = false; seen = over tt end })

-- a node that is up or down is not refused
not_refused : (is_down : Bool) (durable staged : List Record) → (if is_down then down else up durable staged) ≡ refused Down → ⊥
not_refused true durable staged is = cc
not_refused false durable staged is = cc

-- the flush of the coordinator calls the coordinator
calls_flush : (call : NodeCall) (next : CareFlow) → NextCall fresh (Some call) next → call ≡ Coordinator calls.Flush
calls_flush call (Flush v) asks = same_Some call (Coordinator calls.Flush) asks.2.0
calls_flush call (Learn v) asks = absurd asks
calls_flush call (Resolve v) asks = absurd asks
calls_flush call (Raise v) asks = absurd asks
calls_flush call (Collect v) asks = absurd asks

-- a flush that was answered with a refusal ends with it
ends_down : (n : names.NodeName) (reply : Reply) (end : CareEnd) → n ≡ named.Coordinator → reply ≡ from_coordinator (told.Flush (Err Down)) → Gives false n reply end → end ≡ Refused Down
ends_down named.Coordinator (from_coordinator (told.Flush r)) end is so gives = let e : r ≡ Err Down = cc in gives ∙ ap ended_by e
ends_down (named.Shard s) reply end is so gives = absurd (let bad : named.Shard s ≡ named.Coordinator = is in cc)
ends_down named.Coordinator reply end is so gives = absurd gives

module _ {D : Type 0} (state : D → State) (honest : D → Type 0) (moment : D → ℕ) (left_since : D → ℕ → List ℕ → Type 0) (a b : D) where
  -- a store whose nodes were all refused, with the care in its first slot, and without it
  abbrev first_slot : ℕ → Option FlowView
  first_slot zero = Some (shows fresh)
  first_slot (suc t) = None

  abbrev before : Store D
  before = record { devices = λ n. (a, b); at = λ n. refused Down; open_ids = []; given = 0; flows = first_slot }

  abbrev behind : Store D
  behind = record before { flows = λ t. None }

  is_out : (s : Store D) → s.devices coordinator ≡ (a, b) → s.at coordinator ≡ refused Down → IsNode 7 1 s coordinator (views.refused Down a b)
  is_out s devices at = record { there = tt; named = tt; devices = devices; at = at; memory = tt }

  others : (t : ℕ) → t ≢ 0 → behind.flows t ≡ before.flows t
  others zero ne = absurd (ne refl)
  others (suc t) ne = refl

  makes : CareTurns state honest moment left_since 7 1 before behind 0 fresh (ended_so (Refused Down))
  makes = record {
    there = tt;
    call = Coordinator calls.Flush;
    out = asking;
    asks = (refl, refl, (refl, refl));
    fits = tt;
    was = views.refused Down a b;
    is = views.refused Down a b;
    called_is = record {
      before = is_out before refl refl;
      after = is_out behind refl refl;
      devices = λ m ne. refl;
      at = λ m ne. refl;
      memory = (refl, refl);
      fails = λ is not_was. absurd (not_was is);
    };
    reply = from_coordinator (told.Flush (Err Down));
    answers = (refl, refl);
    gives = (refl, refl, (Refused Down, refl, refl));
    turns = record { before = refl; after = refl; others = others };
  }

  -- it tells the refusal
  tells_it : tells (Some (Refused Down)) ≡ refuses Down
  tells_it = refl

  -- a coordinator whose opening was refused answers its flush with that refusal
  answers_down : (was is : NodeView D) (reply : Reply) → IsNode 7 1 before coordinator was → Answered state honest moment left_since was (Coordinator calls.Flush) reply is
      → reply ≡ from_coordinator (told.Flush (Err Down))
  answers_down (views.coordinator v) is reply node so = absurd (not_refused v.is_down v.durable v.staged (sym node.at))
  answers_down (views.shard v) is reply node so = absurd node.named
  answers_down (views.refused e x y) is (from_coordinator (told.Flush r)) node so = let same : refused Down ≡ refused e = node.at in let given : r ≡ Err e = so.1 in cc
  answers_down (views.refused e x y) is reply node so = absurd so.1

  -- so the flush ends with it
  ends_refused : (end : CareEnd) (call : NodeCall) (middle : CareFlow) (was is : NodeView D) (reply : Reply) → NextCall fresh (Some call) middle → cares.Answered middle reply (ended_so end)
      → IsNode 7 1 before (called call) was → Answered state honest moment left_since was call reply is → end ≡ Refused Down
  ends_refused end call (Flush v) was is reply asks gives node so =
      let call_is = calls_flush call (Flush v) asks in
      let by_coordinator = subst (λ (x : NodeCall). IsNode 7 1 before (called x) was) call_is node in
      let answer = subst (λ (x : NodeCall). Answered state honest moment left_since was x reply is) call_is so in
      let over_is = ends_down v.node reply gives.2.0 asks.0 (answers_down was is reply by_coordinator answer) (subst (λ (b : Bool). Gives b v.node reply gives.2.0) asks.1 gives.2.1) in
      same_Some end (Refused Down) (ap (λ (x : FlushView). x.ended) gives.2.2 ∙ ap Some over_is)
  ends_refused end call (Learn v) was is reply asks gives node so = absurd asks
  ends_refused end call (Resolve v) was is reply asks gives node so = absurd asks
  ends_refused end call (Raise v) was is reply asks gives node so = absurd asks
  ends_refused end call (Collect v) was is reply asks gives node so = absurd asks

  -- and never as done
  done_while_refused : CareTurns state honest moment left_since 7 1 before behind 0 fresh (ended_so Done) → ⊥
  done_while_refused turn =
      let is : Done ≡ Refused Down = ends_refused Done turn.call turn.out turn.was turn.is turn.reply turn.asks turn.gives turn.called_is.before turn.answers in
      absurd cc

  -- after its end it does not stay in its slot
  kept_in_its_slot : CareTurns state honest moment left_since 7 1 before before 0 fresh (ended_so (Refused Down)) → ⊥
  kept_in_its_slot turn = some_is_none turn.turns.after
    where
      some_is_none : {X : Type 0} {x : X} → Some x ≡ None → ⊥
      some_is_none is = cc

  -- a flush of the coordinator takes no shard down
  abbrev coordinator_alone : NodeName → NodeState
  coordinator_alone coordinator = refused Down
  coordinator_alone (shard s) = down

  abbrev shards_down : Store D
  shards_down = record behind { at = coordinator_alone }

  took_a_shard_down : CareTurns state honest moment left_since 7 1 before shards_down 0 fresh (ended_so (Refused Down)) → ⊥
  took_a_shard_down turn = down_is_not (turn.called_is.at (shard 0) (λ same. shard_is_not (same ∙ ap called (calls_flush turn.call turn.out turn.asks))))
    where
      down_is_not : down ≡ refused Down → ⊥
      down_is_not is = cc

      shard_is_not : shard 0 ≡ coordinator → ⊥
      shard_is_not is = cc

  -- and a store of one shard has no second one to flush
  abbrev of_no_shard : CareFlow
  of_no_shard = Flush (record { node = named.Shard 1; is_checkpoint = false; seen = ready tt flush })

  flushed_no_shard : (old new : Store D) (next : CareFlow) → CareTurns state honest moment left_since 7 1 old new 0 of_no_shard next → ⊥
  flushed_no_shard old new next turn = let there : 1 < 1 = turn.there in omega arith
