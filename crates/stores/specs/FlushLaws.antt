-- Laws of a flush. Whatever a shard's flush answers, the store still stands for the same machine; the coordinator's keeps the whole log.
use Rattle.std.specs.Prelude.{◌≡◌, ◌≢◌, ◌⊎◌, ◌↔◌, ℕ, List, [], ◌++◌, length, Some}
use Rattle.records.specs.declared.record.Record.{Record}
use Rattle.records.specs.Coordinators.{IsCoordinatorImage, coordinator_state}
use Rattle.records.specs.Replays.{IsShardImage}
use Rattle.journal.specs.Records.{found}
use Rattle.laws.specs.Worlds.{coordinator_node, shard_node}
use Rattle.laws.specs.Machines.{Machine}
use Rattle.laws.specs.Nodes.{NodeName, Nodes, SameBut, StandFor, coordinator, down, shard, up}
use Rattle.stores.specs.Moments.{Moment}
use Rattle.stores.specs.StagingLaws.{with_nodes}
use Rattle.stores.specs.Stands.{Stands}

-- What a flush of this node may leave: its durable records, or some that stand for the same as these with what was staged.
abbrev pub IsOldOrSame : NodeName → List Record → List Record → List Record → Type 0
IsOldOrSame n durable staged found = (found ≡ durable) ⊎ StandFor n (durable ++ staged) found

-- the contents have such records
abbrev pub HasOldOrSame : NodeName → List Record → List Record → List ℕ → List ℕ → Type 0
HasOldOrSame n durable staged a b = (rs : List Record) × (found a b ≡ Some rs) × IsOldOrSame n durable staged rs

-- A flush of a shard that is up: from then on a stop leaves its durable records, or those with what was staged, or others that stand for the same as
-- these. If it answered Ok, the shard is up with such records and a stop leaves them alone; else it is down.
pub record FlushesShard (s : ℕ) (left after : NodeName → List Record → Type 0) (old new : Nodes) : Type 0 where
  pub durable : List Record
  pub staged : List Record
  pub records : List Record
  pub was : old.at (shard s) ≡ up durable staged
  pub stand_for : StandFor (shard s) (durable ++ staged) records
  pub others : SameBut (shard s) old new
  pub same : (n : NodeName) (found : List Record) → n ≢ shard s → after n found ↔ left n found
  pub here : (found : List Record) → after (shard s) found → IsOldOrSame (shard s) durable staged found
  pub ended : (new.at (shard s) ≡ down) ⊎ ((new.at (shard s) ≡ up records []) × ((found : List Record) → after (shard s) found ↔ (found ≡ records)))

-- a flush of a shard leaves what the store stands for
abbrev pub ShardFlushesStand : ℕ → ℕ → (NodeName → List Record → Type 0) → (NodeName → List Record → Type 0) → Type 0
ShardFlushesStand store shards left after = (now : Moment) (next : Nodes) (s : ℕ) → Stands store shards left now
    → (flush : FlushesShard s left after now.nodes next) → IsShardImage (shard_node store shards s) (flush.durable ++ flush.staged)
    → Stands store shards after (with_nodes now next)

-- A flush of the coordinator that answered Ok: it is up, and a stop leaves its durable records with what was staged, or others that stand for the same,
-- and no more.
pub record FlushesCoordinator (left after : NodeName → List Record → Type 0) (old new : Nodes) : Type 0 where
  pub durable : List Record
  pub staged : List Record
  pub records : List Record
  pub was : old.at coordinator ≡ up durable staged
  pub now : new.at coordinator ≡ up records []
  pub stand_for : StandFor coordinator (durable ++ staged) records
  pub shards : (s : ℕ) → new.at (shard s) ≡ old.at (shard s)
  pub open_writes : new.open_writes ≡ old.open_writes
  pub given : new.given ≡ old.given
  pub same : (s : ℕ) (found : List Record) → after (shard s) found ↔ left (shard s) found
  pub here : (found : List Record) → after coordinator found ↔ (found ≡ records)

-- then the whole log is kept, and the horizon is the one that the coordinator knows
abbrev pub all_kept : Machine → List Record → Machine
all_kept m records = record m { kept = length m.log; horizon = (coordinator_state records).horizon }

-- and the store stands for that
abbrev pub CoordinatorFlushesStand : ℕ → ℕ → (NodeName → List Record → Type 0) → (NodeName → List Record → Type 0) → Type 0
CoordinatorFlushesStand store shards left after = (now : Moment) (next : Nodes) → Stands store shards left now
    → (flush : FlushesCoordinator left after now.nodes next) → IsCoordinatorImage (coordinator_node store shards) (flush.durable ++ flush.staged)
    → Stands store shards after (record now { nodes = next; machine = all_kept now.machine (flush.durable ++ flush.staged) })

-- A flush of the coordinator that failed: it is down, and a stop leaves its durable records, or those with what was staged, or others that stand for the
-- same as these. The writes that were open are so until it is opened again.
pub record FailsFlush (left after : NodeName → List Record → Type 0) (old new : Nodes) : Type 0 where
  pub durable : List Record
  pub staged : List Record
  pub was : old.at coordinator ≡ up durable staged
  pub now : new.at coordinator ≡ down
  pub unchanged : (s : ℕ) → new.at (shard s) ≡ old.at (shard s)
  pub open_writes : new.open_writes ≡ old.open_writes
  pub given : new.given ≡ old.given
  pub same : (s : ℕ) (found : List Record) → after (shard s) found ↔ left (shard s) found
  pub here : (found : List Record) → after coordinator found → IsOldOrSame coordinator durable staged found

-- the store still stands for the same machine
abbrev pub FailedFlushesStand : ℕ → ℕ → (NodeName → List Record → Type 0) → (NodeName → List Record → Type 0) → Type 0
FailedFlushesStand store shards left after = (now : Moment) (next : Nodes) → Stands store shards left now
    → FailsFlush left after now.nodes next → Stands store shards after (with_nodes now next)
