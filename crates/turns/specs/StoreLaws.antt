-- Laws of stores over devices: what they rest at once they are closed or stopped, and what a chain of promises is.
use Rattle.std.specs.Prelude.{◌≡◌, ◌≤◌, ◌⊎◌, ◌+◌, ◌++◌, ℕ, List, [], length, take, Contains, All}
use Rattle.tuples.specs.declared.entry.WriteId.{WriteId}
use Rattle.device.specs.Device.{State, left}
use Rattle.laws.specs.Machines.{Machine, Move, Moves}
use Rattle.laws.specs.Nodes.{IsThere, NodeName}
use Rattle.stores.specs.Moments.{Moment}
use Rattle.stores.specs.NewStores.{empty_machine}
use Rattle.stores.specs.Stores.{IsToldOver, NamesHorizon, RestsOver, StandsOver, Store}
use Rattle.turns.specs.Promises.{Ran, RunsAll, StopsBetween}
use Rattle.turns.specs.Reopens.{Reopened}
use Rattle.turns.specs.Runs.{Event, IsRun, Step}

-- the machine after a stop within a step: a beginning of the log from before or from after, with all that was kept, and with the horizon from before
pub record IsStopOf (before after m : Machine) : Type 0 where
  pub kept : before.kept ≤ m.kept
  pub log : (m.log ≡ take (length m.log) before.log) ⊎ (m.log ≡ take (length m.log) after.log)
  pub horizon : m.horizon ≡ before.horizon

-- nothing was ever written to a device
pub record IsUnmade (s : State) : Type 0 where
  pub durable : s.durable ≡ []
  pub written : s.written ≡ []

-- Given what a device holds and whether it is honest, how often a stop may have come at it, what a stop since then may have left, and a store's id
-- and number of shards
module _ {D : Type 0} (state : D → State) (honest : D → Type 0) (moment : D → ℕ) (left_since : D → ℕ → List ℕ → Type 0) (store shards : ℕ) where
  -- unmade devices rest at the empty log
  abbrev pub UnmadeStoresRest : Type 0
  UnmadeStoresRest = (devices : NodeName → D × D) → ((n : NodeName) → IsThere shards n → honest (devices n).0 × honest (devices n).1)
      → ((n : NodeName) → IsThere shards n → IsUnmade (state (devices n).0) × IsUnmade (state (devices n).1)) → RestsOver state honest store shards devices empty_machine

  -- a store that stands rests once it is closed, at the machine for which it stands, and what was told stays so
  abbrev pub ClosedStoresRest : Type 0
  ClosedStoresRest = (s : Store D) (now : Moment) → StandsOver state honest store shards s now
      → RestsOver state honest store shards s.devices now.machine × All (IsToldOver state honest store shards s.devices now.machine) now.told

  -- one device settled on a content that a stop since the old one might have left
  pub record SettlesOne (old new stopped : D) : Type 0 where
    pub content : List ℕ
    pub was_left : left_since new (moment old) content
    pub only : (x : List ℕ) → left (state stopped) x → x ≡ content

  -- a stop came at some moment between two stores: each device is honest, and has settled on one content of those that it might have left
  pub record IsStopped (old new stopped : NodeName → D × D) : Type 0 where
    pub honest_a : (n : NodeName) → IsThere shards n → honest (stopped n).0
    pub honest_b : (n : NodeName) → IsThere shards n → honest (stopped n).1
    pub a : (n : NodeName) → IsThere shards n → SettlesOne (old n).0 (new n).0 (stopped n).0
    pub b : (n : NodeName) → IsThere shards n → SettlesOne (old n).1 (new n).1 (stopped n).1

  -- what a stop at any moment of a step leaves rests, with all that was kept and told before the step: so it can be opened
  abbrev pub StoppedStepsRest : Type 0
  StoppedStepsRest = (old new : Store D) (now : Moment) (number : ℕ) (step : Step) (events : List Event) (stopped : NodeName → D × D) → StandsOver state honest store shards old now
      → (ran : Ran state honest moment left_since store shards old now number step events new) → IsStopped old.devices new.devices stopped
      → (m : Machine) × IsStopOf now.machine ran.after.machine m × RestsOver state honest store shards stopped m × All (IsToldOver state honest store shards stopped m) now.told

  -- so does what a stop at any moment of an opening leaves
  abbrev pub StoppedOpeningsRest : Type 0
  StoppedOpeningsRest = (old stopped : NodeName → D × D) (new : Store D) (m : Machine) (told : List WriteId) → RestsOver state honest store shards old m
      → All (IsToldOver state honest store shards old m) told → (reopened : Reopened state honest moment left_since store shards old m told new)
      → StopsBetween state honest moment left_since store shards old new.devices m reopened.after.machine → IsStopped old new.devices stopped
      → (later : Machine) × IsStopOf m reopened.after.machine later × RestsOver state honest store shards stopped later × All (IsToldOver state honest store shards stopped later) told

  -- a chain of promises, from whatever moment the store stands for, is a run of all the steps, to a moment that the store then stands for
  abbrev pub ChainsRun : Type 0
  ChainsRun = (old new : Store D) (number : ℕ) (steps : List Step) (events : List Event) → RunsAll state honest moment left_since store shards old number steps events new
      → (now : Moment) → StandsOver state honest store shards old now
      → (after : Moment) × IsRun shards (NamesHorizon state honest store shards old now) number now steps events after × StandsOver state honest store shards new after
      × ((x : ℕ) → NamesHorizon state honest store shards new after x → Contains after.named x ⊎ NamesHorizon state honest store shards old now x)

  -- a chain and then another is a chain of all the steps, so that a list of steps may be run in parts
  abbrev pub ChainsJoin : Type 0
  ChainsJoin = (old mid new : Store D) (number : ℕ) (steps more : List Step) (events others : List Event) → RunsAll state honest moment left_since store shards old number steps events mid
      → RunsAll state honest moment left_since store shards mid (number + length steps) more others new
      → RunsAll state honest moment left_since store shards old number (steps ++ more) (events ++ others) new

-- a run only moves the machine, so what was kept before it stays kept
abbrev pub RunsMove : ℕ → (ℕ → Type 0) → Type 0
RunsMove shards found_before = (number : ℕ) (before after : Moment) (steps : List Step) (events : List Event) → IsRun shards found_before number before steps events after
    → (moves : List Move) × Moves before.machine moves after.machine
