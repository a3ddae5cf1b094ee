-- Laws of what the coordinator answers of its log, heads and decisions on their way to a shard; of what a shard and a watch make of these; and of what
-- shards have settled.
use Rattle.std.specs.Prelude.{◌≡◌, ◌≤◌, ◌<◌, ◌+◌, ◌-◌, ℕ, min, List, length, take, drop, All, Contains}
use Rattle.records.specs.declared.record.Record.{Record}
use Rattle.records.specs.Coordinators.{CoordinatorState, end_of}
use Rattle.records.specs.Replays.{ShardState, shard_state}
use Rattle.tuples.specs.Watching.{events_from}
use Rattle.shard.specs.Shards.{AreNewIds, ArePreparedHere, unlearned}
use Rattle.laws.specs.CoordinatorLaws.{IsLearnedInAll}
use Rattle.laws.specs.Worlds.{shard_node}
use Rattle.decisions.specs.Standing.{HeadsValue, IsSettled, SettledValue}
use Rattle.decisions.specs.Values.{BatchValue}
use Rattle.stores.specs.Held.{AreRightHeads, IsRightBatch, IsRightSettled}
use Rattle.stores.specs.Moments.{Moment, Running}
use Rattle.laws.specs.Nodes.{CoordinatorKnows, NodeName, ShardKnows, leaves, shard, up}
use Rattle.stores.specs.Replies.{IsWatchAnswer}
use Rattle.stores.specs.Stands.{HasSeenBelow, Stands, at_shards}

-- The store has this id and this many shards, and a stop may leave this of each node, except for what is staged.
module _ (store shards : ℕ) (left : NodeName → List Record → Type 0) where
  -- the kept place and the durable horizon of a coordinator that is up are right heads of a flow that has seen the machine
  abbrev pub HeadsAreRight : Type 0
  HeadsAreRight = (now : Moment) (r : Running) (kept memory : CoordinatorState) (heads : HeadsValue) → Stands store shards left now → CoordinatorKnows now.nodes kept memory
      → Contains r.seen now.machine → HasSeenBelow now.machine r → heads.kept ≡ end_of kept → heads.horizon ≡ kept.horizon → AreRightHeads r now.machine heads

  -- durable decisions after a place, any number of them, are a right batch
  abbrev pub BatchesAreRight : Type 0
  BatchesAreRight = (now : Moment) (kept memory : CoordinatorState) (b : BatchValue) (most : ℕ) → Stands store shards left now → CoordinatorKnows now.nodes kept memory
      → kept.base ≤ b.from → b.from ≤ end_of kept → b.writes ≡ take most (drop (b.from - kept.base) kept.log) → IsRightBatch now.machine b

  -- the writes of a right batch that a shard has not learned are in doubt there with exactly its part, each under an id of its own: so a shard of a
  -- store that stands never answers Damaged
  abbrev pub BatchesMeetPrepares : Type 0
  BatchesMeetPrepares = (now : Moment) (s : ℕ) (memory : ShardState) (b : BatchValue) → Stands store shards left now → s < shards → ShardKnows now.nodes s memory
      → IsRightBatch now.machine b → b.from ≤ memory.learned
      → ArePreparedHere (shard_node store shards s) memory (unlearned memory b.from b.writes) × AreNewIds (unlearned memory b.from b.writes)

  -- what the durable records of a shard that is up have learned is settled
  abbrev pub ShardsSettle : Type 0
  ShardsSettle = (now : Moment) (s place : ℕ) (durable staged : List Record) → Stands store shards left now → now.nodes.at (shard s) ≡ up durable staged
      → place ≡ (shard_state durable).learned → IsSettled (left (shard s)) place

  -- what each shard has settled it has learned, whatever a stop leaves, with what is staged or without: so the horizon may be raised to it
  abbrev pub SettledIsLearned : Type 0
  SettledIsLearned = (now : Moment) (place : ℕ) (settled : List SettledValue) (kept memory : CoordinatorState) → Stands store shards left now → CoordinatorKnows now.nodes kept memory
      → All (IsRightSettled shards left place) settled → ((s : ℕ) → s < shards → (v : SettledValue) × Contains settled v × (v.shard ≡ s))
      → IsLearnedInAll shards (at_shards (leaves left now.nodes)) place

  -- a watch that holds heads, and gets the decisions from its cursor on, as many as its limit or its heads allow, answers what agrees
  abbrev pub WatchesAgree : Type 0
  WatchesAgree = (now : Moment) (r : Running) (c limit : ℕ) (names : List (List ℕ)) (heads : HeadsValue) (b : BatchValue) → AreRightHeads r now.machine heads → IsRightBatch now.machine b
      → heads.horizon ≤ c → c ≤ heads.kept → b.from ≡ c → length b.writes ≡ min (c + limit) heads.kept - c
      → IsWatchAnswer c limit names r now.machine (min (c + limit) heads.kept) (events_from (c + 1) names b.writes)
