-- A call of one node of a store, as the store shows it before and after.
use Rattle.std.specs.Prelude.{◌≡◌, ◌≢◌, ◌⊎◌, ℕ, List, Contains, if◌then◌else◌}
use Rattle.tuples.specs.declared.entry.WriteId.{WriteId}
use Rattle.decisions.specs.Standing.{IsGivenOut}
use Rattle.device.specs.Device.{State}
pub use Rattle.calls.specs.Fitting.{FitsItsTypes}
use Rattle.calls.specs.Views as views
use Rattle.calls.specs.Views.{NodeView, devices_of}
use Rattle.names.specs.declared.node_name.NodeName as names
use Rattle.names.specs.declared.node_name.NodeName.TheVariants.{Coordinator as name_coordinator, Shard as name_shard}
use Rattle.calls.specs.declared.call.NodeCall.{NodeCall}
use Rattle.calls.specs.declared.call.NodeCall.TheVariants.{Coordinator, Shard}
use Rattle.laws.specs.Machines.{Machine}
use Rattle.laws.specs.Nodes.{IsThere, NodeName, NodeState, Nodes, coordinator, shard, up, down, refused}
use Rattle.laws.specs.Worlds.{coordinator_node, shard_node}
use Rattle.stores.specs.Moments.{Moment}
use Rattle.stores.specs.Stands.{IsHorizonIn}
use Rattle.stores.specs.Stores.{AreSound, NamesHorizon, ShowsNodes, Store, stops}
use Rattle.turns.specs.Promises.{HasDeviceCause, StopsBetween}

-- a node's name, as the laws say it
abbrev pub name_of : names.NodeName → NodeName
name_of name_coordinator = coordinator
name_of (name_shard s) = shard s

-- the node that is called
abbrev pub called : NodeCall → NodeName
called (Coordinator call) = coordinator
called (Shard s call) = shard s

-- what a node shows of its records: nothing if a device of it failed, or its opening was refused
abbrev pub shown : {D : Type 0} → NodeView D → NodeState
shown (views.coordinator v) = if v.is_down then down else up v.durable v.staged
shown (views.shard v) = if v.is_down then down else up v.durable v.staged
shown (views.refused e a b) = refused e

-- what lies in a coordinator's memory alone is what the store shows; if its opening was refused, only the store says it
abbrev pub ShowsMemory : {D : Type 0} → NodeView D → Store D → Type 0
ShowsMemory (views.coordinator v) s = (s.open_ids ≡ v.open_ids) × (s.given ≡ v.given)
ShowsMemory (views.shard v) s = Unit {0}
ShowsMemory (views.refused e a b) s = Unit {0}

-- it stays if no coordinator that was opened is called
abbrev pub KeepsMemory : {D : Type 0} → NodeView D → Store D → Store D → Type 0
KeepsMemory (views.coordinator v) old new = Unit {0}
KeepsMemory (views.shard v) old new = (new.open_ids ≡ old.open_ids) × (new.given ≡ old.given)
KeepsMemory (views.refused e a b) old new = (new.open_ids ≡ old.open_ids) × (new.given ≡ old.given)

-- The store has this id and this many shards.
module _ (store shards : ℕ) where
  -- the node has this name; one whose opening was refused may have any
  abbrev pub IsNamed : {D : Type 0} → NodeView D → NodeName → Type 0
  IsNamed (views.coordinator v) coordinator = v.me ≡ coordinator_node store shards
  IsNamed (views.coordinator v) (shard s) = ⊥
  IsNamed (views.shard v) coordinator = ⊥
  IsNamed (views.shard v) (shard s) = v.me ≡ shard_node store shards s
  IsNamed (views.refused e a b) n = Unit {0}

  -- this is the store's node of this name
  pub record IsNode {D : Type 0} (s : Store D) (n : NodeName) (v : NodeView D) : Type 0 where
    pub there : IsThere shards n
    pub named : IsNamed v n
    pub devices : s.devices n ≡ devices_of v
    pub at : s.at n ≡ shown v
    pub memory : ShowsMemory v s

-- Given what a device holds and whether it is honest, how often a stop may have come at it, what a stop since then may have left, and a store's id
-- and number of shards
module _ {D : Type 0} (state : D → State) (honest : D → Type 0) (moment : D → ℕ) (left_since : D → ℕ → List ℕ → Type 0) (store shards : ℕ) where
  -- A call of this node took it from one state to another, and changed no other node. If it took the node down, a device has the cause.
  pub record IsCalled (n : NodeName) (was is : NodeView D) (old new : Store D) : Type 0 where
    pub before : IsNode store shards old n was
    pub after : IsNode store shards new n is
    pub devices : (m : NodeName) → m ≢ n → new.devices m ≡ old.devices m
    pub at : (m : NodeName) → m ≢ n → new.at m ≡ old.at m
    pub memory : KeepsMemory was old new
    pub fails : shown is ≡ down → shown was ≢ down → HasDeviceCause state honest moment left_since store shards old.devices new.devices n

  -- A call made these nodes and this machine of those of a moment. The devices are sound, and the store shows the nodes; no horizon is new but one that a
  -- flow was asked for; a node that went down has its cause; at every moment inside the call a stop leaves what means the log; and an id that was given out
  -- stays so.
  pub record IsMade (old new : Store D) (now : Moment) (next : Nodes) (m : Machine) : Type 0 where
    pub sound : AreSound state honest store shards new.devices
    pub nodes : ShowsNodes next new
    pub named : (x : ℕ) → IsHorizonIn store shards (stops state honest store shards new.devices) next x → Contains now.named x ⊎ NamesHorizon state honest store shards old now x
    pub fails : (k : NodeName) → IsThere shards k → next.at k ≡ down → now.nodes.at k ≢ down → HasDeviceCause state honest moment left_since store shards old.devices new.devices k
    pub inside : StopsBetween state honest moment left_since store shards old.devices new.devices now.machine m
    pub given : (id : WriteId) → IsGivenOut (stops state honest store shards old.devices coordinator) id → IsGivenOut (stops state honest store shards new.devices coordinator) id
