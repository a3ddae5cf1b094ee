-- A turn of a watch: its next call is made, and the watch takes the reply.
use Rattle.std.specs.Prelude.{ℕ, List, [], ◌∷◌, Option, Some, None, MatchOption, false}
use Rattle.device.specs.Device.{State}
use Rattle.calls.specs.Asking as asking
use Rattle.calls.specs.Views.{NodeView}
use Rattle.calls.specs.declared.call.NodeCall.{NodeCall}
use Rattle.calls.specs.declared.reply.Reply.{Reply}
use Rattle.answer_flow.specs.Watching as watching_by
use Rattle.answer_flow.specs.WatchViews.{WatchEnding, WatchFlowValue, WatchView}
use Rattle.answer_flow.specs.WatchViews as views
use Rattle.stores.specs.Flows.{Asked, Holds, IsAsked, to_watch, watching}
use Rattle.stores.specs.Replies.{listed}
use Rattle.stores.specs.Stores.{FlowView, Store}
use Rattle.turns.specs.Runs.{Told, answered, goes_on, refuses}
use Rattle.flow_turns.specs.StoreCalls.{IsCalled, called}
use Rattle.flow_turns.specs.StoreTurns.{SlotTurns, TurnRuns}

-- what a flow that answers a request was asked, and holds, as a store shows it: a cancelled one is gone at once
abbrev pub shown_answer : Asked → Holds → FlowView
shown_answer asked holds = record { asked = Some asked; holds = holds; is_cancelled = false }

-- what a watch was asked
abbrev pub asked_of : WatchFlowValue → Asked
asked_of v = to_watch v.cursor v.limit v.namespaces

-- after its turn it stands in its slot, unless it has ended
abbrev pub watch_in_slot : Asked → WatchView → Option WatchEnding → Option FlowView
watch_in_slot asked v None = Some (shown_answer asked (watching v.holds))
watch_in_slot asked v (Some end) = None

-- what is told: that it goes on, or how it ended
abbrev pub watch_tells : Option WatchEnding → Told
watch_tells None = goes_on
watch_tells (Some (views.listed place events)) = answered (listed place events)
watch_tells (Some (views.refused e)) = refuses e

-- Given what a device holds and whether it is honest, how often a stop may have come at it, what a stop since then may have left, and a store's id
-- and number of shards
module _ {D : Type 0} (state : D → State) (honest : D → Type 0) (moment : D → ℕ) (left_since : D → ℕ → List ℕ → Type 0) (store shards : ℕ) where
  -- The watch in this slot, which was asked what is in range, makes its next call of one node of the store, and is then seen as given.
  pub record WatchTurns (old new : Store D) (slot : ℕ) (v : WatchFlowValue) (after : WatchView) : Type 0 where
    pub asked : IsAsked shards (asked_of v)
    pub call : NodeCall
    pub out : WatchView
    pub asks : watching_by.Asks v.cursor v.limit (views.seen_of v) call out
    pub was : NodeView D
    pub is : NodeView D
    pub called_is : IsCalled state honest moment left_since store shards (called call) was is old new
    pub reply : Reply
    pub answers : asking.Answered state honest moment left_since was call reply is
    pub gives : MatchOption out.awaited ⊥ (λ awaited. watching_by.GivesTo v.cursor v.limit v.namespaces out awaited reply after)
    pub turns : SlotTurns slot (shown_answer (asked_of v) (watching v.holds)) (watch_in_slot (asked_of v) after after.ended) old new

  -- such a turn keeps the promise of a step of a run: it goes on with heads that are right, lists the changes after its cursor, or ends with a refusal that
  -- has its cause
  abbrev pub WatchesTurn : Type 0
  WatchesTurn = (old new : Store D) (slot : ℕ) (v : WatchFlowValue) (after : WatchView) → WatchTurns old new slot v after
      → TurnRuns state honest moment left_since store shards old slot (watch_tells after.ended ∷ []) new
