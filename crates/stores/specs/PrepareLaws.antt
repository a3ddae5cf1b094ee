-- Laws of the turn in which a shard is asked to prepare, whatever the coordinator is: what Ok means for the log, and the cause of each refusal.
use Rattle.std.specs.Prelude.{◌≡◌, ◌<◌, ℕ, true, None, List}
use Rattle.tuples.specs.declared.entry.Entry.{Entry}
use Rattle.refusal.specs.declared.refusal.Refusal.TheVariants.{Busy, Collected, Full, Precondition}
use Rattle.tuples.specs.Log.{HoldAfter}
use Rattle.tuples.specs.Parts.{part, takes_part}
use Rattle.records.specs.declared.record.Record.{Record}
use Rattle.records.specs.declared.record.Record.TheVariants.{Prepare}
use Rattle.records.specs.Format.{IsRecord}
use Rattle.records.specs.Replays.{ShardState, find_in_doubt}
use Rattle.journal.specs.Records.{HasNoRoom}
use Rattle.shard.specs.Shards.{AskBelow, IsBroken, IsBusy, IsPreparable}
use Rattle.laws.specs.Nodes.{NodeName, ShardKnows, shard}
use Rattle.stores.specs.Causes.{IsCause}
use Rattle.stores.specs.Moments.{Moment, Running}
use Rattle.stores.specs.StagingLaws.{IsFlowOf}
use Rattle.stores.specs.Stands.{Stands}

-- The store has this id and this many shards, and a stop may leave this of each node, except for what is staged.
module _ (store shards : ℕ) (left : NodeName → List Record → Type 0) where
  -- a flow that has not decided asks a shard that takes part in its write, that is up and knows this, and that has not prepared it
  pub record IsPreparing (now : Moment) (r : Running) (w : Entry) (s : ℕ) : Type 0 where
    pub stands : Stands store shards left now
    pub flow : IsFlowOf now r w
    pub there : s < shards
    pub takes : takes_part shards s w ≡ true
    pub memory : ShardState
    pub knows : ShardKnows now.nodes s memory
    pub fresh : find_in_doubt w.id memory.in_doubt ≡ None

  -- if the shard finds nothing against its part, the part's conditions are met after the whole log, including decisions that it has not learned
  abbrev pub PreparedConditionsAreMet : Type 0
  PreparedConditionsAreMet = (now : Moment) (r : Running) (w : Entry) (s : ℕ) → (asks : IsPreparing now r w s)
      → IsPreparable asks.memory (part shards s w) → HoldAfter now.machine.log (part shards s w).conditions

  -- if it finds its part's tuples taken, another write in doubt there names one of them
  abbrev pub BusyShardsHaveCause : Type 0
  BusyShardsHaveCause = (now after : Moment) (r : Running) (w : Entry) (s : ℕ) → (asks : IsPreparing now r w s)
      → IsBusy asks.memory (part shards s w) → IsCause shards (shard s) now after r Busy

  -- if it finds a condition broken, that condition is not met after the whole log
  abbrev pub BrokenShardsHaveCause : Type 0
  BrokenShardsHaveCause = (now after : Moment) (r : Running) (w : Entry) (s : ℕ) → (asks : IsPreparing now r w s)
      → IsBroken asks.memory (part shards s w) → IsCause shards (shard s) now after r Precondition

  -- if a condition names a place below its horizon, it names one below the machine's
  abbrev pub CollectedShardsHaveCause : Type 0
  CollectedShardsHaveCause = (now after : Moment) (r : Running) (w : Entry) (s : ℕ) → (asks : IsPreparing now r w s)
      → AskBelow asks.memory.horizon (part shards s w).conditions → IsCause shards (shard s) now after r Collected

  -- if its batch has no room for the prepare, that is the record that had no room
  abbrev pub FullShardsHaveCause : Type 0
  FullShardsHaveCause = (now after : Moment) (r : Running) (w : Entry) (s : ℕ) → (asks : IsPreparing now r w s) → IsRecord (Prepare (part shards s w))
      → HasNoRoom asks.knows.staged (Prepare (part shards s w)) → IsCause shards (shard s) now after r Full
