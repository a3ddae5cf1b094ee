-- A store whose nodes are all at rest, before it is opened: both ties hold of a beginning of its log; and of the empty list, if nothing was written yet.
use Rattle.std.specs.Prelude.{◌≡◌, ◌⊎◌, ◌≤◌, ◌<◌, ℕ, List, [], take}
use Rattle.tuples.specs.declared.entry.Entry.{Entry}
use Rattle.records.specs.declared.record.Record.{Record}
use Rattle.records.specs.Replays.{shard_state}
use Rattle.device.specs.Device.{State, left}
use Rattle.journal.specs.Records.{Finds}
use Rattle.laws.specs.Worlds.{Rests}
use Rattle.ties.specs.ShardTies.{RowsAnywhere}
use Rattle.ties.specs.Ties.{Anywhere}

-- the farthest place that a shard has learned in any records that a stop may leave, or the kept one if that is farther
pub record IsReached (shards kept : ℕ) (shard : ℕ → List Record → Type 0) (place : ℕ) : Type 0 where
  pub above : kept ≤ place
  pub all : (s : ℕ) (found : List Record) → s < shards → shard s found → (shard_state found).learned ≤ place
  pub some : (place ≡ kept) ⊎ ((s : ℕ) × (found : List Record) × (s < shards) × shard s found × ((shard_state found).learned ≡ place))

-- Given what a device holds and whether it is honest, the devices of the coordinator and of each shard
module _ {D : Type 0} (state : D → State) (honest : D → Type 0) (a b : D) (devices : ℕ → D × D) where
  abbrev pub coordinator_stops : List Record → Type 0
  coordinator_stops rs = Finds (left (state a)) (left (state b)) rs

  abbrev pub shard_stops : ℕ → List Record → Type 0
  shard_stops s rs = Finds (left (state (devices s).0)) (left (state (devices s).1)) rs

  -- all devices are honest, and whatever a stop leaves of them means a beginning of one log
  pub record IsResting (store shards : ℕ) (log : List Entry) (kept h : ℕ) : Type 0 where
    pub honest_a : honest a
    pub honest_b : honest b
    pub honest_shards : (s : ℕ) → s < shards → honest (devices s).0 × honest (devices s).1
    pub rests : Rests store shards log kept h coordinator_stops shard_stops
    pub some : 1 ≤ shards
    -- a stop leaves some records of each kind of node
    pub coordinator : (found : List Record) × coordinator_stops found
    pub shard : (found : List Record) × shard_stops 0 found

  -- Up to the farthest place that a shard has learned, both ties hold: no list that an opening finds is shorter.
  abbrev pub RestingNodesAreTied : Type 0
  RestingNodesAreTied = (store shards : ℕ) (log : List Entry) (kept h place : ℕ) → IsResting store shards log kept h → IsReached shards kept shard_stops place
      → Anywhere state honest a b (take place log) h [] × ((s : ℕ) → s < shards → RowsAnywhere state honest shards s (devices s).0 (devices s).1 (take place log) h)

-- a device that nobody has written to
pub record IsUnmade (s : State) : Type 0 where
  pub durable : s.durable ≡ []
  pub written : s.written ≡ []

-- Two devices that nobody has written to are tied to the empty list, as a coordinator's and as those of any shard.
abbrev pub UnmadeNodesAreTied : {D : Type 0} → (D → State) → (D → Type 0) → Type 0
UnmadeNodesAreTied {D} state honest = (a b : D) → honest a → honest b → IsUnmade (state a) → IsUnmade (state b)
    → Anywhere state honest a b [] 0 [] × ((shards s : ℕ) → RowsAnywhere state honest shards s a b [] 0)
