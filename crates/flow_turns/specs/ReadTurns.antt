-- A turn of a read: its next call is made, and the read takes the reply.
use Rattle.std.specs.Prelude.{◌≡◌, ℕ, List, [], ◌∷◌, Option, Some, None, MatchOption}
use Rattle.device.specs.Device.{State}
use Rattle.calls.specs.Asking as asking
use Rattle.calls.specs.Views.{NodeView}
use Rattle.calls.specs.declared.call.NodeCall.{NodeCall}
use Rattle.calls.specs.declared.reply.Reply.{Reply}
use Rattle.answer_flow.specs.Reading as reading_by
use Rattle.answer_flow.specs.ReadViews.{ReadEnding, ReadFlowValue, ReadView}
use Rattle.answer_flow.specs.ReadViews as views
use Rattle.stores.specs.Flows.{Asked, IsAsked, reading, to_read}
use Rattle.stores.specs.Replies.{selected}
use Rattle.stores.specs.Stores.{FlowView, Store}
use Rattle.turns.specs.Runs.{Told, answered, goes_on, refuses}
use Rattle.flow_turns.specs.StoreCalls.{FitsItsTypes, IsCalled, called}
use Rattle.flow_turns.specs.StoreTurns.{SlotTurns, TurnRuns}
use Rattle.flow_turns.specs.AnswerTurns.{shown_answer}

-- what a read was asked
abbrev pub read_of : ReadFlowValue → Asked
read_of v = to_read v.fresh v.sets

-- after its turn it stands in its slot, unless it has ended
abbrev pub read_in_slot : Asked → ReadView → Option ReadEnding → Option FlowView
read_in_slot asked v None = Some (shown_answer asked (reading v.holds))
read_in_slot asked v (Some end) = None

-- what is told: that it goes on, or how it ended
abbrev pub read_tells : Option ReadEnding → Told
read_tells None = goes_on
read_tells (Some (views.selected place rows)) = answered (selected place rows)
read_tells (Some (views.refused e)) = refuses e

-- Given what a device holds and whether it is honest, how often a stop may have come at it, what a stop since then may have left, and a store's id
-- and number of shards
module _ {D : Type 0} (state : D → State) (honest : D → Type 0) (moment : D → ℕ) (left_since : D → ℕ → List ℕ → Type 0) (store shards : ℕ) where
  -- The read in this slot, of a store of this many shards, which was asked what is in range, makes its next call of one node of the store, and is then seen
  -- as given.
  pub record ReadTurns (old new : Store D) (slot : ℕ) (v : ReadFlowValue) (after : ReadView) : Type 0 where
    pub of_store : v.shards ≡ shards
    pub asked : IsAsked shards (read_of v)
    pub call : NodeCall
    pub out : ReadView
    pub asks : reading_by.Asks v.shards v.sets (views.seen_of v) call out
    pub fits : FitsItsTypes call
    pub was : NodeView D
    pub is : NodeView D
    pub called_is : IsCalled state honest moment left_since store shards (called call) was is old new
    pub reply : Reply
    pub answers : asking.Answered state honest moment left_since was call reply is
    pub gives : MatchOption out.awaited ⊥ (λ awaited. reading_by.GivesTo v.shards v.fresh v.sets out awaited reply after)
    pub turns : SlotTurns slot (shown_answer (read_of v) (reading v.holds)) (read_in_slot (read_of v) after after.ended) old new

  -- Such a turn keeps the promise of a step of a run: it goes on with a place and rows that are right, answers what its tuplesets select at the place, or
  -- ends with a refusal that has its cause.
  abbrev pub ReadsTurn : Type 0
  ReadsTurn = (old new : Store D) (slot : ℕ) (v : ReadFlowValue) (after : ReadView) → ReadTurns old new slot v after
      → TurnRuns state honest moment left_since store shards old slot (read_tells after.ended ∷ []) new
