-- What is so at every moment of all that a stop may leave of the nodes, beside the list of writes.
use Rattle.std.specs.Prelude.{◌≡◌, ◌⊎◌, ◌<◌, ℕ, Bool, true, false, List, [], ◌∷◌, Some, Contains}
use Rattle.tuples.specs.declared.entry.Entry.{Entry}
use Rattle.tuples.specs.declared.entry.WriteId.{WriteId}
use Rattle.tuples.specs.Log.{AreNew, HoldAfter}
use Rattle.tuples.specs.Parts.{part, takes_part}
use Rattle.records.specs.declared.record.Record.{Record}
use Rattle.records.specs.Replays.{IsShardImage, find_in_doubt, shard_state}
use Rattle.laws.specs.LogLaws.{IsUnlisted}
use Rattle.laws.specs.Shards.{ShardMeans}
use Rattle.laws.specs.Worlds.{Means, Rests, shard_node}
use Rattle.accord.specs.declared.fact.Fact.{Fact}
use Rattle.accord.specs.declared.fact.Fact.TheVariants.{Voted}
use Rattle.accord.specs.declared.parts.LogPart.{LogPart}
use Rattle.accord.specs.declared.parts.ShardPart.{ShardPart}

-- the parts of all nodes
pub record AllNodes : Type 0 where
  pub coordinator : LogPart
  pub shard : ℕ → ShardPart

-- a stop may leave this list of a node, now or once what it has staged is durable
abbrev pub MayLeave : List (List Record) → Bool → List Record → List Record → Type 0
MayLeave left is_up known found = Contains left found ⊎ ((is_up ≡ true) × (found ≡ known))

abbrev pub log_leaves : LogPart → List Record → Type 0
log_leaves c = MayLeave c.left c.is_up c.known

abbrev pub shard_leaves : (ℕ → ShardPart) → ℕ → List Record → Type 0
shard_leaves shard s = MayLeave (shard s).left (shard s).is_up (shard s).known

-- A write that is not decided: it is not listed; and each prepare of it, staged or in what a stop leaves, is exactly the shard's part, whose conditions hold
-- after the list.
pub record IsUndecided (shards : ℕ) (n : AllNodes) (w : Entry) : Type 0 where
  pub unlisted : IsUnlisted w.id n.coordinator.log
  pub exact : (s : ℕ) (found : List Record) (p : Entry) → s < shards → shard_leaves n.shard s found → find_in_doubt w.id (shard_state found).in_doubt ≡ Some p
      → (takes_part shards s w ≡ true) × (p ≡ part shards s w) × HoldAfter n.coordinator.log p.conditions

-- All nodes agree: whatever a stop leaves of them, with what is staged or without, means a beginning of one legal list that holds what is kept; and each open
-- write is undecided.
pub record Agree (store shards : ℕ) (n : AllNodes) : Type 0 where
  pub rests : Rests store shards n.coordinator.log n.coordinator.kept n.coordinator.horizon (log_leaves n.coordinator) (shard_leaves n.shard)
  pub whole : n.coordinator.is_up ≡ true → Means store shards n.coordinator.log n.coordinator.horizon n.coordinator.known (shard_leaves n.shard)
  pub listed : (s : ℕ) (found : List Record) → s < shards → shard_leaves n.shard s found
      → IsShardImage (shard_node store shards s) found × ShardMeans shards s n.coordinator.log n.coordinator.horizon n.coordinator.horizon (shard_state found)
  pub some : (s : ℕ) → s < shards → (found : List Record) × shard_leaves n.shard s found
  pub distinct : AreNew n.coordinator.open_writes
  pub undecided : (w : Entry) → Contains n.coordinator.open_writes w → IsUndecided shards n w

-- nodes that were never made
abbrev pub unmade : AllNodes
unmade = record {
  coordinator = record { left = [] ∷ []; known = []; is_up = false; log = []; kept = 0; horizon = 0; open_writes = [] };
  shard = λ s. record { left = [] ∷ []; known = []; is_up = false };
}

abbrev pub UnmadeNodesAgree : Type 0
UnmadeNodesAgree = (store shards : ℕ) → Agree store shards unmade

-- A fact that a caller may know for good: the shard has voted for the write of this id. While that is open, all that a stop may leave of the shard has its part.
abbrev pub IsVoted : ℕ → AllNodes → ℕ → WriteId → Type 0
IsVoted shards n s id = (w : Entry) → Contains n.coordinator.open_writes w → w.id ≡ id → (found : List Record) → shard_leaves n.shard s found
    → find_in_doubt id (shard_state found).in_doubt ≡ Some (part shards s w)

-- a fact is right of all nodes
abbrev pub IsRightOf : ℕ → AllNodes → Fact → Type 0
IsRightOf shards n (Voted s id) = IsVoted shards n s id
