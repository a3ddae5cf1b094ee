-- Laws of calls that a store shows.
use Rattle.std.specs.Prelude.{◌≡◌, ◌≢◌, ℕ, false, List, [], ◌∷◌, Option, Some, None, All}
use Rattle.refusal.specs.declared.refusal.Refusal.{Refusal}
use Rattle.refusal.specs.declared.refusal.Refusal.TheVariants.{Unsure}
use Rattle.device.specs.Device.{State}
use Rattle.calls.specs.Asking.{Answered}
use Rattle.calls.specs.Views.{NodeView}
use Rattle.calls.specs.declared.call.NodeCall.{NodeCall}
use Rattle.calls.specs.declared.reply.Reply.{Reply}
use Rattle.laws.specs.Machines.{Machine}
use Rattle.laws.specs.Nodes.{NodeName, Nodes, down}
use Rattle.stores.specs.Causes.{HasItsCause}
use Rattle.stores.specs.Flows.{Asked, Holds}
use Rattle.stores.specs.Held.{IsRight, IsRightVerdict}
use Rattle.stores.specs.Moments.{Moment, Running, flow_at, is_write}
use Rattle.stores.specs.Replies.{Agrees, Answer}
use Rattle.stores.specs.Stores.{FlowView, StandsOver, Store, stops}
use Rattle.turns.specs.Promises.{HasDeviceCause, Ran, events_of}
use Rattle.turns.specs.QuietTurns.{IsQuietCall, behind_call, ending, with_call}
use Rattle.turns.specs.Runs.{Told, answered, goes_on, refuses, told_by, turn}
use Rattle.flow_turns.specs.StoreCalls.{IsCalled, IsMade, IsNode, shown}
use Rattle.flow_turns.specs.StoreTurns.{SlotTurns}

-- Given what a device holds and whether it is honest, how often a stop may have come at it, what a stop since then may have left, and a store's id
-- and number of shards
module _ {D : Type 0} (state : D → State) (honest : D → Type 0) (moment : D → ℕ) (left_since : D → ℕ → List ℕ → Type 0) (store shards : ℕ) where
  -- a call is quiet, over the devices of a store before it and after it
  pub record IsQuietOver (old new : Store D) (now : Moment) (next : Nodes) (m : Machine) : Type 0 where
    pub quiet : IsQuietCall store shards (stops state honest store shards old.devices) (stops state honest store shards new.devices) now next m
    pub made : IsMade state honest moment left_since store shards old new now next m

  -- a call that left its node as it was is quiet
  abbrev pub StillCallsAreQuiet : Type 0
  StillCallsAreQuiet = (old new : Store D) (now : Moment) (n : NodeName) (was is : NodeView D) → StandsOver state honest store shards old now
      → IsCalled state honest moment left_since store shards n was is old new → is ≡ was → IsQuietOver old new now now.nodes now.machine

  -- A running flow in this slot, other than a write, after a quiet call: the store shows it so before the turn and after it.
  pub record IsQuietTurn (old new : Store D) (now : Moment) (next : Nodes) (m : Machine) (slot : ℕ) (r : Running) (asked : Asked) (holds : Holds) (g : Option FlowView) : Type 0 where
    pub standing : StandsOver state honest store shards old now
    pub call : IsQuietOver old new now next m
    pub runs : flow_at slot now.running ≡ Some r
    pub no_write : is_write asked ≡ false
    pub slots : SlotTurns slot (record { asked = Some asked; holds = holds; is_cancelled = false }) g old new

  -- its turn tells this, and keeps the promise of a step
  abbrev pub KeepsPromise : Store D → Store D → Moment → ℕ → List Told → Type 0
  KeepsPromise old new now slot told = (number : ℕ) → Ran state honest moment left_since store shards old now number (turn slot) (events_of number told) new

  -- it goes on with what is right in its hands
  abbrev pub QuietTurnsGoOn : Type 0
  QuietTurnsGoOn = (old new : Store D) (now : Moment) (next : Nodes) (m : Machine) (slot : ℕ) (r : Running) (asked : Asked) (holds after : Holds)
      → IsQuietTurn old new now next m slot r asked holds (Some (record { asked = Some asked; holds = after; is_cancelled = false }))
      → IsRight shards (stops state honest store shards new.devices) (behind_call now next m) (with_call r after r.met m) asked after → KeepsPromise old new now slot (goes_on ∷ [])

  -- or ends with an answer that agrees
  abbrev pub QuietTurnsAnswer : Type 0
  QuietTurnsAnswer = (old new : Store D) (now : Moment) (next : Nodes) (m : Machine) (slot : ℕ) (r : Running) (asked : Asked) (holds : Holds) (answer : Answer)
      → IsQuietTurn old new now next m slot r asked holds None → Agrees (with_call r r.holds r.met m) (ending now next m r (told_by answer)) asked answer
      → All (IsRightVerdict shards (stops state honest store shards new.devices) (behind_call now next m)) (told_by answer) → KeepsPromise old new now slot (answered answer ∷ [])

  -- or with a refusal that has its cause
  abbrev pub QuietTurnsRefuse : Type 0
  QuietTurnsRefuse = (old new : Store D) (now : Moment) (next : Nodes) (m : Machine) (slot : ℕ) (r : Running) (asked : Asked) (holds : Holds) (e : Refusal)
      → (taken : IsQuietTurn old new now next m slot r asked holds None) → HasItsCause shards taken.call.quiet.node now (ending now next m r []) r e → e ≢ Unsure → KeepsPromise old new now slot (refuses e ∷ [])

  -- A node that goes down in a call has the cause: a device of it failed, or has no room for one more batch.
  abbrev pub FailedCallsHaveCause : Type 0
  FailedCallsHaveCause = (old new : Store D) (now : Moment) (n : NodeName) (was is : NodeView D) (call : NodeCall) (reply : Reply) → StandsOver state honest store shards old now
      → IsNode store shards old n was → IsNode store shards new n is → Answered state honest moment left_since was call reply is
      → shown is ≡ down → shown was ≢ down → HasDeviceCause state honest moment left_since store shards old.devices new.devices n
