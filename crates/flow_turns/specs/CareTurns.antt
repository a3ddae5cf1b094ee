-- A turn of a care of the nodes: its next call is made, and the care takes the reply.
use Rattle.std.specs.Prelude.{ℕ, List, [], ◌∷◌, Option, Some, None, map, false}
use Rattle.device.specs.Device.{State}
use Rattle.calls.specs.Asking as asking
use Rattle.calls.specs.Views.{NodeView}
use Rattle.calls.specs.declared.call.NodeCall.{NodeCall}
use Rattle.calls.specs.declared.reply.Reply.{Reply}
use Rattle.care_flow.specs.Cares.{Answered, IsThere, NextCall, end_of}
use Rattle.care_flow.specs.Collecting.{CollectFlowValue}
use Rattle.care_flow.specs.Ends.{resolved_value}
use Rattle.care_flow.specs.Flushing.{FlushFlowValue}
use Rattle.care_flow.specs.Learning.{LearnFlowValue}
use Rattle.care_flow.specs.Raising.{RaiseFlowValue}
use Rattle.care_flow.specs.Resolving.{ResolveFlowValue}
use Rattle.care_flow.specs.declared.care.CareFlow.{CareFlow}
use Rattle.care_flow.specs.declared.care.CareFlow.TheVariants.{Flush, Learn, Resolve, Raise, Collect}
use Rattle.care_flow.specs.declared.end.CareEnd.{CareEnd}
use Rattle.care_flow.specs.declared.end.CareEnd.TheVariants.{Done, Resolved as all_resolved, Refused}
use Rattle.stores.specs.Flows.{Asked, Holds, collecting, flushing, learning, raising, resolving, to_collect, to_flush, to_learn, to_raise, to_resolve}
use Rattle.stores.specs.Replies.{done, resolved}
use Rattle.stores.specs.Stores.{FlowView, Store}
use Rattle.turns.specs.Runs.{Told, answered, goes_on, refuses}
use Rattle.flow_turns.specs.StoreCalls.{FitsItsTypes, IsCalled, called, name_of}
use Rattle.flow_turns.specs.StoreTurns.{SlotTurns, TurnRuns}

-- a care that is asked this and holds that, as a store shows it: a cancelled care is gone at once
abbrev pub shown_care : Asked → Holds → FlowView
shown_care asked holds = record { asked = Some asked; holds = holds; is_cancelled = false }

abbrev pub shows : CareFlow → FlowView
shows (Flush v) = shown_care (to_flush (name_of v.node)) flushing
shows (Learn v) = shown_care (to_learn v.shard) (learning v.seen.holds)
shows (Resolve v) = shown_care (to_resolve v.shard) (resolving v.seen.holds)
shows (Raise v) = shown_care (to_raise v.place) (raising v.seen.holds)
shows (Collect v) = shown_care (to_collect v.shard) (collecting v.seen.holds)

-- after its turn it stands in its slot, unless it has ended
abbrev pub in_slot : FlowView → Option CareEnd → Option FlowView
in_slot v None = Some v
in_slot v (Some end) = None

-- what is told: that it goes on, or how it ended
abbrev pub tells : Option CareEnd → Told
tells None = goes_on
tells (Some Done) = answered done
tells (Some (all_resolved all)) = answered (resolved (map resolved_value all.items))
tells (Some (Refused e)) = refuses e

-- Given what a device holds and whether it is honest, how often a stop may have come at it, what a stop since then may have left, and a store's id
-- and number of shards
module _ {D : Type 0} (state : D → State) (honest : D → Type 0) (moment : D → ℕ) (left_since : D → ℕ → List ℕ → Type 0) (store shards : ℕ) where
  -- The care in this slot, of a node that is there, makes its next call of one node of the store, and is then as given.
  pub record CareTurns (old new : Store D) (slot : ℕ) (flow next : CareFlow) : Type 0 where
    pub there : IsThere shards flow
    pub call : NodeCall
    pub out : CareFlow
    pub asks : NextCall flow (Some call) out
    pub fits : FitsItsTypes call
    pub was : NodeView D
    pub is : NodeView D
    pub called_is : IsCalled state honest moment left_since store shards (called call) was is old new
    pub reply : Reply
    pub answers : asking.Answered state honest moment left_since was call reply is
    pub gives : Answered out reply next
    pub turns : SlotTurns slot (shows flow) (in_slot (shows next) (end_of next)) old new

  -- such a turn keeps the promise of a step of a run: it goes on with what is right in its hands, or ends with an answer that agrees, or with a refusal
  -- that has its cause
  abbrev pub IsRunTurn : CareFlow → CareFlow → Type 0
  IsRunTurn flow next = (old new : Store D) (slot : ℕ) → CareTurns old new slot flow next → TurnRuns state honest moment left_since store shards old slot (tells (end_of next) ∷ []) new

  -- so is that of a flush of a node
  abbrev pub FlushesTurn : Type 0
  FlushesTurn = (v w : FlushFlowValue) → IsRunTurn (Flush v) (Flush w)

  -- of a shard's learning
  abbrev pub LearnsTurn : Type 0
  LearnsTurn = (v w : LearnFlowValue) → IsRunTurn (Learn v) (Learn w)

  -- of a shard's collection
  abbrev pub CollectsTurn : Type 0
  CollectsTurn = (v w : CollectFlowValue) → IsRunTurn (Collect v) (Collect w)

  -- of a raise of the horizon
  abbrev pub RaisesTurn : Type 0
  RaisesTurn = (v w : RaiseFlowValue) → IsRunTurn (Raise v) (Raise w)

  -- and of a resolution of the writes in doubt at a shard
  abbrev pub ResolvesTurn : Type 0
  ResolvesTurn = (v w : ResolveFlowValue) → IsRunTurn (Resolve v) (Resolve w)

  -- and so of any care
  abbrev pub CaresTurn : Type 0
  CaresTurn = (flow next : CareFlow) → IsRunTurn flow next
