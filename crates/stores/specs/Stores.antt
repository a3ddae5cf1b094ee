-- A store over devices: what it shows, and what it stands for.
use Rattle.std.specs.Prelude.{◌≡◌, ◌<◌, ℕ, Bool, List, map, Option, Some, None, Contains}
use Rattle.tuples.specs.declared.entry.Entry.{Entry}
use Rattle.tuples.specs.declared.entry.WriteId.{WriteId}
use Rattle.records.specs.declared.record.Record.{Record}
use Rattle.records.specs.Replays.{shard_state}
use Rattle.device.specs.Device.{State, left}
use Rattle.journal.specs.Records.{Finds, found}
use Rattle.decisions.specs.Standing.{IsGivenOut}
use Rattle.laws.specs.Machines.{Machine}
use Rattle.laws.specs.Nodes.{IsThere, NodeName, NodeState, Nodes, coordinator, shard}
use Rattle.laws.specs.ShardLaws.{IsUnlistedAbove}
use Rattle.laws.specs.Shards.{ShardMeans}
use Rattle.laws.specs.Worlds.{Rests}
use Rattle.stores.specs.Flows.{Asked, Holds, id_of}
use Rattle.stores.specs.Moments.{Moment, Running, flow_at}
use Rattle.stores.specs.Stands.{IsHorizonIn, Stands, at_shards}

-- what a store shows of a flow: what it is asked, unless that was a write that it has begun; what it holds; and whether it was cancelled
pub record FlowView : Type 0 where
  pub asked : Option Asked
  pub holds : Holds
  pub is_cancelled : Bool

-- A store as it is: the two devices of each node and what the node knows; the ids of the open writes, newest first, and the last number that was
-- given; and the flows that run, each in its slot. A store need not keep what writes were asked for, or what flows have seen.
pub record Store (D : Type 0) : Type 0 where
  pub devices : NodeName → D × D
  pub at : NodeName → NodeState
  pub open_ids : List WriteId
  pub given : ℕ
  pub flows : ℕ → Option FlowView

-- a running flow is shown so
pub record ShowsFlow (r : Running) (v : FlowView) : Type 0 where
  pub asked : (a : Asked) → v.asked ≡ Some a → a ≡ r.asked
  pub still_asked : id_of r.holds ≡ None → v.asked ≡ Some r.asked
  pub holds : v.holds ≡ r.holds
  pub cancelled : v.is_cancelled ≡ r.is_cancelled

-- what is in a slot is shown so
abbrev pub ShowsSlot : Option Running → Option FlowView → Type 0
ShowsSlot None None = Unit {0}
ShowsSlot None (Some v) = ⊥
ShowsSlot (Some r) None = ⊥
ShowsSlot (Some r) (Some v) = ShowsFlow r v

-- the nodes are shown so: of the open writes only the ids
pub record ShowsNodes {D : Type 0} (nodes : Nodes) (s : Store D) : Type 0 where
  pub at : (n : NodeName) → nodes.at n ≡ s.at n
  pub open_ids : map (λ (w : Entry). w.id) nodes.open_writes ≡ s.open_ids
  pub given : nodes.given ≡ s.given

-- Given what a device holds and whether it is honest, and a store's id and number of shards
module _ {D : Type 0} (state : D → State) (honest : D → Type 0) (store shards : ℕ) where
  -- what a stop may leave of a node: the records of one content of each of its devices
  abbrev pub stops : (NodeName → D × D) → NodeName → List Record → Type 0
  stops devices n = Finds (left (state (devices n).0)) (left (state (devices n).1))

  -- each node's devices are honest, and whatever a stop leaves of them holds records
  pub record AreSound (devices : NodeName → D × D) : Type 0 where
    pub honest_a : (n : NodeName) → IsThere shards n → honest (devices n).0
    pub honest_b : (n : NodeName) → IsThere shards n → honest (devices n).1
    pub readable : (n : NodeName) (a b : List ℕ) → IsThere shards n → left (state (devices n).0) a → left (state (devices n).1) b
        → (rs : List Record) × (found a b ≡ Some rs)

  -- devices of a store that is closed: whatever a stop leaves of them means a beginning of the log that holds what is kept; whatever it leaves of a
  -- shard means the whole log, kept or not, so that none of it need be cut as long as the coordinator can't be read; and each id of the log,
  -- including those of writes that a stop may take from it, was given in an epoch that every stop leaves
  pub record RestsOver (devices : NodeName → D × D) (m : Machine) : Type 0 where
    pub sound : AreSound devices
    pub rests : Rests store shards m.log m.kept m.horizon (stops devices coordinator) (at_shards (stops devices))
    pub listed : (s : ℕ) (found : List Record) → s < shards → stops devices (shard s) found → ShardMeans shards s m.log m.horizon m.horizon (shard_state found)
    pub given : (w : Entry) → Contains m.log w → IsGivenOut (stops devices coordinator) w.id

  -- somebody may have been told that this id is aborted: it was given in an epoch that every stop leaves, and no write above the horizon has it
  pub record IsToldOver (devices : NodeName → D × D) (m : Machine) (id : WriteId) : Type 0 where
    pub given : IsGivenOut (stops devices coordinator) id
    pub none : IsUnlistedAbove m.horizon id m.log

  -- a store stands for what this moment says: it shows the nodes and flows of the moment
  pub record StandsOver (s : Store D) (now : Moment) : Type 0 where
    pub sound : AreSound s.devices
    pub nodes : ShowsNodes now.nodes s
    pub flows : (slot : ℕ) → ShowsSlot (flow_at slot now.running) (s.flows slot)
    pub stands : Stands store shards (stops s.devices) now

  -- whatever a stop may leave of the coordinator, with what is staged or without, has this horizon
  abbrev pub NamesHorizon : Store D → Moment → ℕ → Type 0
  NamesHorizon s now = IsHorizonIn store shards (stops s.devices) now.nodes
