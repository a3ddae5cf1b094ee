-- Steps of a shard: what is known as it takes one, what it leaves, and that all nodes go on to agree.
use Rattle.std.specs.Prelude.{◌≡◌, ◌≤◌, ◌<◌, ◌==◌, ℕ, true, List, [], ◌∷◌, ◌++◌, Contains, if◌then◌else◌}
use Rattle.tuples.specs.declared.entry.Entry.{Entry}
use Rattle.tuples.specs.declared.entry.WriteId.{WriteId}
use Rattle.tuples.specs.Parts.{part, takes_part}
use Rattle.records.specs.declared.record.Record.{Record}
use Rattle.records.specs.declared.record.Record.TheVariants.{Prepare}
use Rattle.records.specs.Coordinators.{coordinator_state}
use Rattle.records.specs.Replays.{IsShardImage, shard_state}
use Rattle.laws.specs.LockLaws.{IsPreparable}
use Rattle.laws.specs.LogLaws.{IsUnlisted}
use Rattle.laws.specs.ShardLaws.{AreOfLog}
use Rattle.laws.specs.Worlds.{shard_node}
use Rattle.shard.specs.Shards.{AreLearnable, unlearned}
use Rattle.accord.specs.declared.fact.Fact.TheVariants.{Voted}
use Rattle.accord.specs.declared.parts.ShardPart.{ShardPart}
use Rattle.accord.specs.Agreeing.{Agree, AllNodes, IsRightOf, log_leaves}

-- What is known as a shard stages a prepare, by its own contract and by the goods of its caller.
pub record Prepares (store shards : ℕ) (n : AllNodes) (s : ℕ) (w : Entry) : Type 0 where
  pub there : s < shards
  pub up : (n.shard s).is_up ≡ true
  pub takes : takes_part shards s w ≡ true
  pub unlisted : IsUnlisted w.id n.coordinator.log
  pub given : (found : List Record) → log_leaves n.coordinator found → w.id.epoch ≤ (coordinator_state found).epoch
  pub own : (v : Entry) → Contains n.coordinator.open_writes v → v.id ≡ w.id → v ≡ w
  pub preparable : IsPreparable (shard_state (n.shard s).known) (part shards s w)
  pub image : IsShardImage (shard_node store shards s) ((n.shard s).known ++ Prepare (part shards s w) ∷ [])

abbrev pub with_known : ShardPart → Record → ShardPart
with_known x r = record x { known = x.known ++ r ∷ [] }

abbrev pub with_prepare : AllNodes → ℕ → Entry → AllNodes
with_prepare n s p = record n { shard = λ t. if t == s then with_known (n.shard s) (Prepare p) else n.shard t }

abbrev pub PreparesAgree : Type 0
PreparesAgree = (store shards : ℕ) (n : AllNodes) (s : ℕ) (w : Entry) → Agree store shards n → Prepares store shards n s w → Agree store shards (with_prepare n s (part shards s w))

abbrev pub VotesStayAtPrepares : Type 0
VotesStayAtPrepares = (store shards : ℕ) (n : AllNodes) (s : ℕ) (w : Entry) (t : ℕ) (id : WriteId) → Agree store shards n → Prepares store shards n s w → t < shards
    → IsRightOf shards n (Voted t id) → IsRightOf shards (with_prepare n s (part shards s w)) (Voted t id)

-- Kept writes that a shard is to learn, of which it knows the first, it has prepared, if it takes part in them: so its refusal is never that it is damaged.
abbrev pub BatchesAreLearnable : Type 0
BatchesAreLearnable = (store shards : ℕ) (n : AllNodes) (s from : ℕ) (writes : List Entry) → Agree store shards n → s < shards → (n.shard s).is_up ≡ true
    → AreOfLog n.coordinator.log from writes → from ≤ (shard_state (n.shard s).known).learned
    → AreLearnable (shard_node store shards s) (shard_state (n.shard s).known) (unlearned (shard_state (n.shard s).known) from writes)
