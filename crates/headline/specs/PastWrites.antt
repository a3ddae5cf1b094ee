-- Writes that came to nothing: refused, aborted, or cancelled before the decision. No log that follows lists them.
use Rattle.std.specs.Prelude.{◌≡◌, ◌≢◌, ℕ, true, List, [], ◌∷◌, None, Some, Contains}
use Rattle.tuples.specs.declared.entry.WriteId.{WriteId}
use Rattle.refusal.specs.declared.refusal.Refusal.{Refusal}
use Rattle.refusal.specs.declared.refusal.Refusal.TheVariants.{Unsure}
use Rattle.decisions.specs.Standing.{IsGivenOut}
use Rattle.device.specs.Device.{State}
use Rattle.laws.specs.LogLaws.{IsUnlisted}
use Rattle.laws.specs.Machines.{Machine}
use Rattle.laws.specs.Nodes.{NodeName, coordinator}
use Rattle.stores.specs.Flows.{id_of}
use Rattle.stores.specs.Held.{WasGiven}
use Rattle.stores.specs.Moments.{Moment, Running, flow_at}
use Rattle.stores.specs.Stores.{StandsOver, Store, stops}
use Rattle.turns.specs.Promises.{Ran, RunsAll}
use Rattle.turns.specs.Runs.{Event, Step, refuses, turn}

-- Given what a device holds and whether it is honest, how often a stop may have come at it, what a stop since then may have left, and a store's id
-- and number of shards
module _ {D : Type 0} (state : D → State) (honest : D → Type 0) (moment : D → ℕ) (left_since : D → ℕ → List ℕ → Type 0) (store shards : ℕ) where
  -- an id that was given out, that the log lists at no place, and that no flow holds
  pub record IsPast (s : Store D) (now : Moment) (id : WriteId) : Type 0 where
    pub given : WasGiven shards (stops state honest store shards s.devices) now.nodes id
    pub unlisted : IsUnlisted id now.machine.log
    pub unheld : (r : Running) → Contains now.running r → id_of r.holds ≢ Some id

  -- Of devices that rest: an id that was given out, in an epoch that every stop leaves, and that the log lists at no place. The next opening is of a later
  -- epoch, so no other write gets the id.
  pub record IsPastOver (devices : NodeName → D × D) (m : Machine) (id : WriteId) : Type 0 where
    pub given : IsGivenOut (stops state honest store shards devices coordinator) id
    pub unlisted : IsUnlisted id m.log

  -- a write that ends with a refusal, and is not Unsure, is past
  abbrev pub RefusedWritesArePast : Type 0
  RefusedWritesArePast = (old new : Store D) (now : Moment) (number slot : ℕ) (events : List Event) (r : Running) (id : WriteId) (e : Refusal) → StandsOver state honest store shards old now
      → (ran : Ran state honest moment left_since store shards old now number (turn slot) events new) → flow_at slot now.running ≡ Some r → id_of r.holds ≡ Some id
      → ran.told ≡ refuses e ∷ [] → e ≢ Unsure → IsPast new ran.after id

  -- so is one that was cancelled, and had not decided, once it has left its slot
  abbrev pub CancelledWritesArePast : Type 0
  CancelledWritesArePast = (old new : Store D) (now : Moment) (number slot : ℕ) (events : List Event) (r : Running) (id : WriteId) → StandsOver state honest store shards old now
      → (ran : Ran state honest moment left_since store shards old now number (turn slot) events new) → flow_at slot now.running ≡ Some r → id_of r.holds ≡ Some id
      → r.is_cancelled ≡ true → r.decided ≡ None → flow_at slot ran.after.running ≡ None → IsPast new ran.after id

  -- What is past stays so after each step, including the opening of a node again; and so after a chain of the promises of any steps: their log does not
  -- list it.
  abbrev pub PastWritesStay : Type 0
  PastWritesStay = (old new : Store D) (now : Moment) (number : ℕ) (step : Step) (events : List Event) (id : WriteId) → StandsOver state honest store shards old now
      → (ran : Ran state honest moment left_since store shards old now number step events new) → IsPast old now id → IsPast new ran.after id

  abbrev pub PastWritesAreNeverListed : Type 0
  PastWritesAreNeverListed = (old new : Store D) (now : Moment) (number : ℕ) (steps : List Step) (events : List Event) (id : WriteId) → StandsOver state honest store shards old now
      → RunsAll state honest moment left_since store shards old number steps events new → IsPast old now id
      → (after : Moment) × StandsOver state honest store shards new after × IsPast new after id
