-- A turn of a write flow: `next_call` asks for a call, `ask` makes it, at the node that it names, and `give` applies the reply to the flow.
use Rattle.std.specs.Prelude.{◌≤◌, ℕ, Bool, List, MatchOption}
use Rattle.device.specs.Device.{State}
use Rattle.calls.specs.Asking.{Answered}
pub use Rattle.calls.specs.Fitting.{IsWhole}
use Rattle.calls.specs.Views.{NodeView}
use Rattle.calls.specs.declared.call.NodeCall.{NodeCall}
use Rattle.calls.specs.declared.reply.Reply.{Reply}
use Rattle.commit_flow.specs.Answering.{GivesTo}
use Rattle.commit_flow.specs.Views.{WriteView}
use Rattle.commit_flow.specs.Writing.{Asks}
use Rattle.stores.specs.Stores.{Store}
use Rattle.flow_turns.specs.StoreCalls.{FitsItsTypes, IsCalled, called}
use Rattle.flow_turns.specs.StoreTurns.{SlotTurns, TurnRuns}
use Rattle.flow_turns.specs.WritesSeen.{shown, shown_until, told_of}

-- Given what a device holds and whether it is honest, how often a stop may have come at it, what a stop since then may have left, and a store's id
-- and number of shards
module _ {D : Type 0} (state : D → State) (honest : D → Type 0) (moment : D → ℕ) (left_since : D → ℕ → List ℕ → Type 0) (store shards : ℕ) where
  -- The flow in this slot, which is seen as v, made this call: it took the store from old to new, and the flow to what is seen as later.
  pub record MakesCall (old new : Store D) (slot : ℕ) (is_cancelled : Bool) (v later : WriteView) (call : NodeCall) : Type 0 where
    pub some : 1 ≤ shards
    pub mid : WriteView
    pub asks : Asks shards v call mid
    pub fits : FitsItsTypes call
    pub whole : IsWhole call
    pub was : NodeView D
    pub is : NodeView D
    pub reply : Reply
    pub answered : Answered state honest moment left_since was call reply is
    pub node : IsCalled state honest moment left_since store shards (called call) was is old new
    pub gives : MatchOption mid.awaited ⊥ (λ awaited. GivesTo mid awaited reply later)
    pub slots : SlotTurns slot (shown v is_cancelled) (shown_until later.ended later is_cancelled) old new

  -- The law of such a call: it is a turn of the flow, and keeps the promise of a step. The flow goes on with what it is then seen to hold, or ends with
  -- what is told: the place of its write, if that is kept and the log has the write there, or a refusal that has its cause.
  abbrev pub TurnsBy : NodeCall → Type 0
  TurnsBy call = (old new : Store D) (slot : ℕ) (is_cancelled : Bool) (v later : WriteView) → MakesCall old new slot is_cancelled v later call
      → TurnRuns state honest moment left_since store shards old slot (told_of is_cancelled later.ended) new

  -- whatever a write flow asks is a turn of it
  abbrev pub AllTurn : Type 0
  AllTurn = (call : NodeCall) → TurnsBy call
