-- A turn of the flow in a slot of a store, and the promise that it keeps.
use Rattle.std.specs.Prelude.{◌≡◌, ◌≢◌, ℕ, List, Option, Some}
use Rattle.device.specs.Device.{State}
use Rattle.stores.specs.Stores.{FlowView, Store}
use Rattle.turns.specs.Promises.{RunsOne, events_of}
use Rattle.turns.specs.Runs.{Told, turn}

-- The flow in a slot was shown so, and is shown so after its turn, or has left the slot. No other slot has changed.
pub record SlotTurns {D : Type 0} (slot : ℕ) (was : FlowView) (is : Option FlowView) (old new : Store D) : Type 0 where
  pub before : old.flows slot ≡ Some was
  pub after : new.flows slot ≡ is
  pub others : (k : ℕ) → k ≢ slot → new.flows k ≡ old.flows k

-- Given what a device holds and whether it is honest, how often a stop may have come at it, what a stop since then may have left, and a store's id
-- and number of shards
module _ {D : Type 0} (state : D → State) (honest : D → Type 0) (moment : D → ℕ) (left_since : D → ℕ → List ℕ → Type 0) (store shards : ℕ) where
  -- A turn of the flow in this slot tells this, and keeps the promise of a step of a run, whatever its number: from each moment for which the old
  -- store stands to one for which the new store does, by a turn of that flow, with every moment inside.
  abbrev pub TurnRuns : Store D → ℕ → List Told → Store D → Type 0
  TurnRuns old slot told new = (number : ℕ) → RunsOne state honest moment left_since store shards old number (turn slot) (events_of number told) new
