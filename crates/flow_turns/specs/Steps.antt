-- The steps of a run that call no node: a flow begins, and one other than a write is cancelled.
use Rattle.std.specs.Prelude.{◌≡◌, ◌≢◌, ◌≤◌, ◌<◌, ℕ, eqb, false, List, [], ◌∷◌, length, Some, None, Contains}
use Rattle.std.specs.List.{IsDistinct}
use Rattle.tuples.specs.Limits.{max_flows}
use Rattle.refusal.specs.declared.refusal.Refusal.TheVariants.{Full}
use Rattle.device.specs.Device.{State}
use Rattle.laws.specs.Nodes.{NodeName}
use Rattle.stores.specs.Flows.{Asked, Holds, IsAsked, nothing_held}
use Rattle.stores.specs.Moments.{is_write}
use Rattle.stores.specs.Stores.{FlowView, Store}
use Rattle.turns.specs.Promises.{RunsOne, events_of}
use Rattle.turns.specs.Runs.{began, cancel, refuses, start}
use Rattle.flow_turns.specs.StoreTurns.{SlotTurns}

-- no node of the store was called
pub record IsUncalled {D : Type 0} (old new : Store D) : Type 0 where
  pub devices : (n : NodeName) → new.devices n ≡ old.devices n
  pub at : (n : NodeName) → new.at n ≡ old.at n
  pub open_ids : new.open_ids ≡ old.open_ids
  pub given : new.given ≡ old.given

-- a flow that was asked this and holds this, and was not cancelled
abbrev pub shown_flow : Asked → Holds → FlowView
shown_flow asked holds = record { asked = Some asked; holds = holds; is_cancelled = false }

-- A flow that was asked this began in a slot that was free, if fewer than 1,024 slots were taken: no flow was in any other. It holds nothing yet.
pub record IsBegunThere {D : Type 0} (old new : Store D) (slot : ℕ) (asked : Asked) : Type 0 where
  pub taken : List ℕ
  pub few : length taken < max_flows
  pub all : (t : ℕ) → old.flows t ≢ None → Contains taken t
  pub free : old.flows slot ≡ None
  pub store_stays : IsUncalled old new
  pub started : new.flows slot ≡ Some (shown_flow asked (nothing_held asked))
  pub others : (t : ℕ) → t ≢ slot → new.flows t ≡ old.flows t

-- 1,024 slots or more were taken, each by a flow of its own, and the store stays as it was.
pub record IsFullThere {D : Type 0} (old new : Store D) : Type 0 where
  pub taken : List ℕ
  pub many : max_flows ≤ length taken
  pub once : IsDistinct eqb taken
  pub each : (t : ℕ) → Contains taken t → old.flows t ≢ None
  pub store_stays : IsUncalled old new
  pub same : (t : ℕ) → new.flows t ≡ old.flows t

-- The flow in this slot, other than a write, was cancelled between two of its turns: it has left its slot.
pub record IsDroppedThere {D : Type 0} (old new : Store D) (slot : ℕ) (asked : Asked) (holds : Holds) : Type 0 where
  pub no_write : is_write asked ≡ false
  pub store_stays : IsUncalled old new
  pub slots : SlotTurns slot (shown_flow asked holds) None old new

-- Given what a device holds and whether it is honest, how often a stop may have come at it, what a stop since then may have left, and a store's id
-- and number of shards
module _ {D : Type 0} (state : D → State) (honest : D → Type 0) (moment : D → ℕ) (left_since : D → ℕ → List ℕ → Type 0) (store shards : ℕ) where
  -- a flow of whatever kind, asked for what is in range, keeps the promise of a step if it begins, and tells its slot
  abbrev pub FlowsStart : Type 0
  FlowsStart = (old new : Store D) (slot : ℕ) (asked : Asked) → IsAsked shards asked → IsBegunThere old new slot asked
      → (number : ℕ) → RunsOne state honest moment left_since store shards old number (start asked) (events_of number (began slot ∷ [])) new

  -- if 1,024 flows run none begins, and that keeps it too: it tells Full
  abbrev pub FullStoresRefuse : Type 0
  FullStoresRefuse = (old new : Store D) (asked : Asked) → IsAsked shards asked → IsFullThere old new
      → (number : ℕ) → RunsOne state honest moment left_since store shards old number (start asked) (events_of number (refuses Full ∷ [])) new

  -- one other than a write keeps it if it is cancelled, and tells nothing
  abbrev pub CancelledFlowsEnd : Type 0
  CancelledFlowsEnd = (old new : Store D) (slot : ℕ) (asked : Asked) (holds : Holds) → IsDroppedThere old new slot asked holds
      → (number : ℕ) → RunsOne state honest moment left_since store shards old number (cancel slot) [] new
