-- A cancel of a write flow.
use Rattle.std.specs.Prelude.{◌≡◌, ℕ, Bool, true, List, [], None}
use Rattle.device.specs.Device.{State}
use Rattle.commit_flow.specs.Cancelling.{Cancels}
use Rattle.commit_flow.specs.Views.{WriteView}
use Rattle.stores.specs.Stores.{Store}
use Rattle.turns.specs.Promises.{RunsOne}
use Rattle.turns.specs.Runs.{cancel}
use Rattle.flow_turns.specs.Steps.{IsUncalled}
use Rattle.flow_turns.specs.StoreTurns.{SlotTurns}
use Rattle.flow_turns.specs.WritesSeen.{shown, shown_until}

-- Given what a device holds and whether it is honest, how often a stop may have come at it, what a stop since then may have left, and a store's id
-- and number of shards
module _ {D : Type 0} (state : D → State) (honest : D → Type 0) (moment : D → ℕ) (left_since : D → ℕ → List ℕ → Type 0) (store shards : ℕ) where
  -- The flow in this slot was cancelled between two of its turns: `cancel` took it from v to later.
  pub record IsCancelledThere (old new : Store D) (slot : ℕ) (was_cancelled : Bool) (v later : WriteView) : Type 0 where
    pub ended : v.ended ≡ None
    pub cancels : Cancels v later
    pub store_stays : IsUncalled old new
    pub slots : SlotTurns slot (shown v was_cancelled) (shown_until later.ended later true) old new

  -- The law of a cancel: it keeps the promise of a step, and tells nothing. A write that is not begun ends, one that is not decided goes out, and any other
  -- goes on as it was.
  abbrev pub CancelsRun : Type 0
  CancelsRun = (old new : Store D) (slot : ℕ) (was_cancelled : Bool) (v later : WriteView) → IsCancelledThere old new slot was_cancelled v later
      → (number : ℕ) → RunsOne state honest moment left_since store shards old number (cancel slot) [] new
