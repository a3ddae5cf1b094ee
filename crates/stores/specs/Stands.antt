-- What a store stands for at a moment.
use Rattle.std.specs.Prelude.{◌≡◌, ◌≤◌, ◌<◌, ◌↔◌, ℕ, false, List, ◌++◌, length, None, Some, Contains, All, slice_get}
use Rattle.tuples.specs.declared.entry.Entry.{Entry}
use Rattle.tuples.specs.declared.entry.WriteId.{WriteId}
use Rattle.refusal.specs.declared.refusal.Refusal.{Refusal}
use Rattle.tuples.specs.Log.{AreNew}
use Rattle.tuples.specs.Limits.{max_flows, max_open}
use Rattle.records.specs.declared.record.Record.{Record}
use Rattle.records.specs.declared.record.Record.TheVariants.{Epoch}
use Rattle.records.specs.Coordinators.{CoordinatorState, end_of, coordinator_state}
use Rattle.records.specs.Replays.{shard_state}
use Rattle.laws.specs.LogLaws.{IsUnlisted}
use Rattle.laws.specs.Shards.{ShardMeans}
use Rattle.laws.specs.Worlds.{Means, Rests}
use Rattle.laws.specs.Machines.{Machine}
use Rattle.laws.specs.Nodes.{IsOfRefusedOpening, NodeName, coordinator, shard, up, refused, Nodes, leaves, CoordinatorKnows}
use Rattle.stores.specs.Flows.{id_of}
use Rattle.stores.specs.Held.{IsRight, IsRightVerdict, WasGiven}
use Rattle.stores.specs.Moments.{Moment, Running, is_write}
pub use Rattle.holds.specs.Holds.{AreApart}

-- the shards, what a stop may leave of each
abbrev pub at_shards : (NodeName → List Record → Type 0) → ℕ → List Record → Type 0
at_shards leaves_at s = leaves_at (shard s)

-- what a flow has seen lies at or below the machine
abbrev pub HasSeenBelow : Machine → Running → Type 0
HasSeenBelow now r = (m : Machine) → Contains r.seen m → (m.kept ≤ now.kept) × (m.horizon ≤ now.horizon)

-- a flow other than a write has decided nothing, and is not cancelled: a cancelled one ends
abbrev pub IsQuietFlow : Running → Type 0
IsQuietFlow r = is_write r.asked ≡ false → (r.decided ≡ None) × (r.is_cancelled ≡ false)

-- The store has this id and this many shards, and a stop may leave this of each node, except for what is staged.
module _ (store shards : ℕ) (left : NodeName → List Record → Type 0) where
  -- A node that is up: a stop leaves its durable records and no others, and its opening is among them. One whose opening was refused
  -- is so for Down, NoMemory or Full: no node is damaged.
  pub record NodesStand (nodes : Nodes) : Type 0 where
    pub durable : (n : NodeName) (durable staged found : List Record) → nodes.at n ≡ up durable staged → left n found ↔ (found ≡ durable)
    pub no_opening : (n : NodeName) (durable staged : List Record) (epoch store shards node : ℕ) → nodes.at n ≡ up durable staged
        → Contains staged (Epoch epoch store shards node) → ⊥
    pub coordinator_opened : (kept memory : CoordinatorState) → CoordinatorKnows nodes kept memory → 1 ≤ kept.epoch
    pub shard_opened : (s : ℕ) (durable staged : List Record) → nodes.at (shard s) ≡ up durable staged → 1 ≤ (shard_state durable).epoch
    pub sound : (n : NodeName) (e : Refusal) → nodes.at n ≡ refused e → IsOfRefusedOpening e

  -- The heads of a coordinator that is up are the three parts of the machine, and what it knows means the whole log.
  pub record HeadsStand (nodes : Nodes) (m : Machine) : Type 0 where
    pub log : (kept memory : CoordinatorState) → CoordinatorKnows nodes kept memory → end_of memory ≡ length m.log
    pub kept : (kept memory : CoordinatorState) → CoordinatorKnows nodes kept memory → end_of kept ≡ m.kept
    pub horizon : (kept memory : CoordinatorState) → CoordinatorKnows nodes kept memory → kept.horizon ≡ m.horizon
    pub whole : (durable staged : List Record) → nodes.at coordinator ≡ up durable staged
        → Means store shards m.log m.horizon (durable ++ staged) (at_shards (leaves left nodes))

  -- No two writes in doubt at a shard share a tuple or an id, staged or in what a stop leaves.
  abbrev pub LocksStand : Nodes → Type 0
  LocksStand nodes = (s : ℕ) (found : List Record) → s < shards → leaves left nodes (shard s) found → AreApart (shard_state found).in_doubt

  -- Ids: an open write is of the epoch of the coordinator, if that is up, is not listed, and has an id of its own. All ids that stand anywhere
  -- were given out.
  pub record IdsStand (nodes : Nodes) (m : Machine) : Type 0 where
    pub distinct : AreNew nodes.open_writes
    pub few : length nodes.open_writes ≤ max_open
    pub unlisted : (w : Entry) → Contains nodes.open_writes w → IsUnlisted w.id m.log
    pub of_now : (w : Entry) → Contains nodes.open_writes w → (kept memory : CoordinatorState) → CoordinatorKnows nodes kept memory
        → (w.id.epoch ≡ memory.epoch) × (w.id.number ≤ nodes.given)
    pub log_given : (w : Entry) → Contains m.log w → WasGiven shards left nodes w.id
    pub prepares_given : (s : ℕ) (found : List Record) (w : Entry) → s < shards → leaves left nodes (shard s) found
        → Contains (shard_state found).in_doubt w → WasGiven shards left nodes w.id

  -- Flows: each has a slot of its own, a write of its own, and holds what is right. What a flow has seen lies at or below what is there now; and
  -- one other than a write has decided nothing and is not cancelled.
  pub record FlowsStand (now : Moment) : Type 0 where
    pub few : length now.running ≤ max_flows
    pub slots : (i j : ℕ) (q r : Running) → slice_get now.running i ≡ Some q → slice_get now.running j ≡ Some r → q.slot ≡ r.slot → i ≡ j
    pub ids : (i j : ℕ) (q r : Running) (id : WriteId) → slice_get now.running i ≡ Some q → slice_get now.running j ≡ Some r
        → id_of q.holds ≡ Some id → id_of r.holds ≡ Some id → i ≡ j
    pub held : (r : Running) → Contains now.running r → IsRight shards left now r r.asked r.holds
    pub seen : (r : Running) → Contains now.running r → HasSeenBelow now.machine r
    pub quiet : (r : Running) → Contains now.running r → IsQuietFlow r

  -- Whatever a stop leaves of a shard, with what is staged or without, means its part of the whole log, kept or not, and while the coordinator
  -- is not up too: so each listed write above what the shard has learned is in doubt there with exactly its part.
  abbrev pub ListedStand : Nodes → Machine → Type 0
  ListedStand nodes m = (s : ℕ) (found : List Record) → s < shards → leaves left nodes (shard s) found → ShardMeans shards s m.log m.horizon m.horizon (shard_state found)

  -- A store with these nodes and flows stands for this machine: with what is staged or without, whatever a stop leaves means a beginning of
  -- the log that holds what is kept.
  pub record Stands (now : Moment) : Type 0 where
    pub rests : Rests store shards now.machine.log now.machine.kept now.machine.horizon (leaves left now.nodes coordinator) (at_shards (leaves left now.nodes))
    pub nodes : NodesStand now.nodes
    pub heads : HeadsStand now.nodes now.machine
    pub listed : ListedStand now.nodes now.machine
    pub locks : LocksStand now.nodes
    pub ids : IdsStand now.nodes now.machine
    pub flows : FlowsStand now
    pub told : All (IsRightVerdict shards left now) now.told

  -- what a stop may leave of the coordinator, with what is staged or without, has this horizon, which is no longer the first
  abbrev pub IsHorizonIn : Nodes → ℕ → Type 0
  IsHorizonIn nodes x = (1 ≤ x) × ((found : List Record) × leaves left nodes coordinator found × ((coordinator_state found).horizon ≡ x))
