-- A turn of a check: its next call is made, and the check takes the reply.
use Rattle.std.specs.Prelude.{◌≡◌, ℕ, List, [], ◌∷◌, Option, Some, None, MatchOption}
use Rattle.device.specs.Device.{State}
use Rattle.tuples.specs.declared.object.Userset.{Userset}
use Rattle.calls.specs.Asking as asking
use Rattle.calls.specs.Views.{NodeView}
use Rattle.calls.specs.declared.call.NodeCall.{NodeCall}
use Rattle.calls.specs.declared.reply.Reply.{Reply}
use Rattle.answer_flow.specs.Checking as checking_by
use Rattle.answer_flow.specs.CheckViews.{CheckEnding, CheckFlowValue, CheckView}
use Rattle.answer_flow.specs.CheckViews as views
use Rattle.stores.specs.Flows.{Asked, IsAsked, checking, to_check}
use Rattle.stores.specs.Replies.{checked}
use Rattle.stores.specs.Stores.{FlowView, Store}
use Rattle.turns.specs.Runs.{Told, answered, goes_on, refuses}
use Rattle.flow_turns.specs.StoreCalls.{FitsItsTypes, IsCalled, called}
use Rattle.flow_turns.specs.StoreTurns.{SlotTurns, TurnRuns}
use Rattle.flow_turns.specs.AnswerTurns.{shown_answer}

-- what a check was asked: whether its user is a member of this userset
abbrev pub check_of : Userset → CheckFlowValue → Asked
check_of x v = to_check v.fresh x v.user

-- after its turn it stands in its slot, unless it has ended
abbrev pub check_in_slot : Asked → CheckView → Option CheckEnding → Option FlowView
check_in_slot asked v None = Some (shown_answer asked (checking v.holds))
check_in_slot asked v (Some end) = None

-- what is told: that it goes on, or how it ended
abbrev pub check_tells : Option CheckEnding → Told
check_tells None = goes_on
check_tells (Some (views.checked place is_member)) = answered (checked place is_member)
check_tells (Some (views.refused e)) = refuses e

-- Given what a device holds and whether it is honest, how often a stop may have come at it, what a stop since then may have left, and a store's id
-- and number of shards
module _ {D : Type 0} (state : D → State) (honest : D → Type 0) (moment : D → ℕ) (left_since : D → ℕ → List ℕ → Type 0) (store shards : ℕ) where
  -- The check in this slot, of a store of this many shards, which was asked about this userset what is in range, makes its next call of one node of the
  -- store, and is then seen as given.
  pub record CheckTurns (old new : Store D) (slot : ℕ) (x : Userset) (v : CheckFlowValue) (after : CheckView) : Type 0 where
    pub of_store : v.shards ≡ shards
    pub asked : IsAsked shards (check_of x v)
    pub call : NodeCall
    pub out : CheckView
    pub asks : checking_by.Asks v.shards v.user (views.seen_of v) call out
    pub fits : FitsItsTypes call
    pub was : NodeView D
    pub is : NodeView D
    pub called_is : IsCalled state honest moment left_since store shards (called call) was is old new
    pub reply : Reply
    pub answers : asking.Answered state honest moment left_since was call reply is
    pub gives : MatchOption out.awaited ⊥ (λ awaited. checking_by.GivesTo v.fresh v.user out awaited reply after)
    pub turns : SlotTurns slot (shown_answer (check_of x v) (checking v.holds)) (check_in_slot (check_of x v) after after.ended) old new

  -- Such a turn keeps the promise of a step of a run: it goes on with a place and usersets that are right, answers whether the user is a member at the place,
  -- or ends with a refusal that has its cause.
  abbrev pub ChecksTurn : Type 0
  ChecksTurn = (old new : Store D) (slot : ℕ) (x : Userset) (v : CheckFlowValue) (after : CheckView) → CheckTurns old new slot x v after
      → TurnRuns state honest moment left_since store shards old slot (check_tells after.ended ∷ []) new
