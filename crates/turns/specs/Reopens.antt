-- What the opening of a closed store promises, at its end and at every moment of it.
use Rattle.std.specs.Prelude.{◌≡◌, ◌≤◌, ◌⊎◌, ℕ, List, [], length, All}
use Rattle.tuples.specs.declared.entry.WriteId.{WriteId}
use Rattle.refusal.specs.declared.refusal.Refusal.{Refusal}
use Rattle.records.specs.declared.record.Record.{Record}
use Rattle.records.specs.Coordinators.{CoordinatorState, coordinator_state}
use Rattle.device.specs.Device.{State}
use Rattle.laws.specs.Machines.{Machine, Move, Moves}
use Rattle.laws.specs.Nodes.{CoordinatorKnows, IsOfRefusedOpening, IsThere, NodeName, coordinator, refused}
use Rattle.stores.specs.Moments.{Moment}
use Rattle.stores.specs.Stores.{IsToldOver, RestsOver, StandsOver, Store, stops}
use Rattle.turns.specs.Promises.{ComesUp, OpensWithCause, StopsBetween}
use Rattle.turns.specs.Runs.{IsOfOpening}

-- Given what a device holds and whether it is honest, how often a stop may have come at it, what a stop since then may have left, and a store's id
-- and number of shards
module _ {D : Type 0} (state : D → State) (honest : D → Type 0) (moment : D → ℕ) (left_since : D → ℕ → List ℕ → Type 0) (store shards : ℕ) where
  -- a horizon that a stop may leave of the coordinator
  abbrev pub FoundHorizon : (NodeName → D × D) → ℕ → Type 0
  FoundHorizon devices x = (1 ≤ x) × ((rs : List Record) × stops state honest store shards devices coordinator rs × ((coordinator_state rs).horizon ≡ x))

  -- moves of an opening lead from a machine to another
  pub record IsOpenedFrom (old : NodeName → D × D) (m after : Machine) : Type 0 where
    pub moves : List Move
    pub machine : Moves m moves after
    pub allowed : All (IsOfOpening (FoundHorizon old)) moves

  -- a node that is there is up, with nothing staged, or its opening was refused
  abbrev pub IsOpened : (NodeName → D × D) → Store D → NodeName → Type 0
  IsOpened old new n = ComesUp state honest moment left_since store shards old n (new.at n) ⊎ ((e : Refusal) × (new.at n ≡ refused e) × IsOfRefusedOpening e)

  -- A store that is opened again over devices that rest: it has cut, kept and raised no further than to what was found; no flow runs; whoever was told
  -- that a write is aborted was told so for good; each node is up or refused with its cause, and all that a coordinator that is up has found is kept.
  pub record Reopened (old : NodeName → D × D) (m : Machine) (told : List WriteId) (new : Store D) : Type 0 where
    pub after : Moment
    pub opened : IsOpenedFrom old m after.machine
    pub running : after.running ≡ []
    pub told_before : after.told ≡ told
    pub named : after.named ≡ []
    pub nodes : (n : NodeName) → IsThere shards n → IsOpened old new n
    pub causes : (n : NodeName) → IsThere shards n → OpensWithCause state honest moment left_since store shards old new.devices n (new.at n)
    pub kept : (durable memory : CoordinatorState) → CoordinatorKnows after.nodes durable memory → after.machine.kept ≡ length after.machine.log
    pub stands : StandsOver state honest store shards new after

  -- the headline at an opening: from whatever machine the devices rest at, whoever was told what, and at every moment of it
  abbrev pub Reopens : (NodeName → D × D) → Store D → Type 0
  Reopens old new = (m : Machine) (told : List WriteId) → RestsOver state honest store shards old m → All (IsToldOver state honest store shards old m) told
      → (reopened : Reopened old m told new) × StopsBetween state honest moment left_since store shards old new.devices m reopened.after.machine

  -- an opening that ends for lack of memory returns its devices: they rest at a machine to which moves of an opening lead, and what was told stays so
  pub record HandedBack (old new : NodeName → D × D) (m : Machine) (told : List WriteId) : Type 0 where
    pub after : Machine
    pub opened : IsOpenedFrom old m after
    pub rests : RestsOver state honest store shards new after
    pub told_before : All (IsToldOver state honest store shards new after) told

  -- and so at every moment of it
  abbrev pub HandsBack : (NodeName → D × D) → (NodeName → D × D) → Type 0
  HandsBack old new = (m : Machine) (told : List WriteId) → RestsOver state honest store shards old m → All (IsToldOver state honest store shards old m) told
      → (back : HandedBack old new m told) × StopsBetween state honest moment left_since store shards old new m back.after
