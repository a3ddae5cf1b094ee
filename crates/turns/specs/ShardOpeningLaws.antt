-- The seams between the contracts of a shard's opening and of its flush, over the devices of a store, and steps of a run.
use Rattle.std.specs.Prelude.{◌≡◌, ◌≢◌, ◌⊎◌, ◌≤◌, ◌<◌, ℕ, List, [], ◌∷◌, ◌++◌, Some}
use Rattle.tuples.specs.declared.entry.Entry.{Entry}
use Rattle.refusal.specs.declared.refusal.Refusal.{Refusal}
use Rattle.records.specs.declared.record.Record.{Record}
use Rattle.records.specs.Replays.{IsShardImage, greatest_number, shard_state}
use Rattle.device.specs.Device.{HasFailed, Revived, State, left}
use Rattle.journal.specs.Records.{LeavesBoth, LeavesEach, found}
use Rattle.shard.specs.Shards.{IsOpenedShard, IsUp, ShardView, WasLeftOrOpened}
use Rattle.laws.specs.Nodes.{IsOfRefusedOpening, NodeName, NodeState, Nodes, StandFor, coordinator, down, epoch_of, refused, shard}
use Rattle.laws.specs.Worlds.{Rests, shard_node}
use Rattle.stores.specs.FlushLaws.{HasOldOrSame}
use Rattle.stores.specs.Moments.{Moment}
use Rattle.stores.specs.StagingLaws.{with_nodes}
use Rattle.stores.specs.Stands.{IsHorizonIn, Stands, at_shards}
use Rattle.stores.specs.Stores.{stops}
use Rattle.turns.specs.Promises.{ComesUp, HasDeviceCause}
use Rattle.turns.specs.QuietTurns.{IsQuietCall}
use Rattle.turns.specs.Runs.{Restarts, came_up, refuses}
use Rattle.turns.specs.ShardSeamLaws.{ShardIsSeen, at_shard, behind_shard}

-- the nodes with shard s so
abbrev pub put_at : ℕ → NodeState → Nodes → Nodes
put_at s state nodes = record nodes { at = at_shard s state nodes.at }

-- Given what a device holds and whether it is honest, how often a stop may have come at it, what a stop since then may have left, and a store's id
-- and number of shards
module _ {D : Type 0} (state : D → State) (honest : D → Type 0) (moment : D → ℕ) (left_since : D → ℕ → List ℕ → Type 0) (store shards : ℕ) where
  -- both devices of a node were revived
  pub record AreRevived (old : NodeName → D × D) (n : NodeName) (a b : D) : Type 0 where
    pub first : Revived (state (old n).0) (state a)
    pub second : Revived (state (old n).1) (state b)
    pub counts_a : (state (old n).0).failures ≤ (state a).failures
    pub counts_b : (state (old n).1).failures ≤ (state b).failures

  -- the devices of this shard are those that the call left, and no other node's have changed
  pub record IsOver (old : NodeName → D × D) (s : ℕ) (a b : D) (new : NodeName → D × D) : Type 0 where
    pub first : (new (shard s)).0 ≡ a
    pub second : (new (shard s)).1 ≡ b
    pub others : (n : NodeName) → n ≢ shard s → new n ≡ old n

  -- an opening that answers Ok is a step of a run, and the shard comes up
  abbrev pub ShardOpeningsStep : Type 0
  ShardOpeningsStep = (old new : NodeName → D × D) (now : Moment) (s : ℕ) (a b : D) (v : ShardView D) → Stands store shards (stops state honest store shards old) now → s < shards
      → AreRevived old (shard s) a b → IsOpenedShard state honest a b (shard_node store shards s) v → v.staged ≡ [] → v.me ≡ shard_node store shards s → IsOver old s v.a v.b new
      → let next = behind_shard s now.nodes v in
      Stands store shards (stops state honest store shards new) (with_nodes now next)
      × Restarts shards (IsHorizonIn store shards (stops state honest store shards old) now.nodes) now (shard s) (came_up ∷ []) (with_nodes now next)
      × ComesUp state honest moment left_since store shards old (shard s) (next.at (shard s))

  -- A flush that answers Ok, with what stands for the same as what was durable and staged, is quiet, whatever flow makes it; a stop leaves of the other
  -- nodes what it could leave before.
  abbrev pub ShardFlushesAreQuiet : Type 0
  ShardFlushesAreQuiet = (old new : NodeName → D × D) (now : Moment) (s : ℕ) (was v : ShardView D) → Stands store shards (stops state honest store shards old) now
      → ShardIsSeen store shards s now.nodes was → IsUp state honest was → IsUp state honest v → StandFor (shard s) (was.durable ++ was.staged) v.durable → v.staged ≡ []
      → v.me ≡ was.me → IsOver old s v.a v.b new
      → let next = behind_shard s now.nodes v in
      ShardIsSeen store shards s next v
      × IsQuietCall store shards (stops state honest store shards old) (stops state honest store shards new) now next now.machine

  -- One that fails takes the shard down, and is quiet: at every moment of it a stop leaves what was durable, or what stands for the same as this with what
  -- was staged.
  abbrev pub FailedShardFlushesAreQuiet : Type 0
  FailedShardFlushesAreQuiet = (old new : NodeName → D × D) (now : Moment) (s : ℕ) (was v : ShardView D) → Stands store shards (stops state honest store shards old) now
      → ShardIsSeen store shards s now.nodes was → IsUp state honest was → honest v.a → honest v.b
      → LeavesEach moment left_since was.a was.b v.a v.b (HasOldOrSame (shard s) was.durable was.staged) → IsOver old s v.a v.b new
      → IsQuietCall store shards (stops state honest store shards old) (stops state honest store shards new) now (put_at s down now.nodes) now.machine

  -- An opening that is refused is a step of a run: at every moment of it a stop leaves the records of what it could leave before, or what was found with the opening's
  -- record.
  abbrev pub RefusedOpeningsStep : Type 0
  RefusedOpeningsStep = (old new : NodeName → D × D) (now : Moment) (s : ℕ) (a b a' b' : D) (e : Refusal) → Stands store shards (stops state honest store shards old) now
      → AreRevived old (shard s) a b → honest a' → honest b'
      → LeavesBoth moment left_since a b a' b' (WasLeftOrOpened (shard_node store shards s) (state a) (state b)) → IsOfRefusedOpening e → IsOver old s a' b' new
      → let next = put_at s (refused e) now.nodes in
      Stands store shards (stops state honest store shards new) (with_nodes now next)
      × Restarts shards (IsHorizonIn store shards (stops state honest store shards old) now.nodes) now (shard s) (refuses e ∷ []) (with_nodes now next)

  -- an opening that answers Full found a shard that was opened as often as possible
  abbrev pub FullShardsWereOpened : Type 0
  FullShardsWereOpened = (old : NodeName → D × D) (s : ℕ) (a b : D) → AreRevived old (shard s) a b
      → ((rs : List Record) × (found (state a).seen (state b).seen ≡ Some rs) × IsShardImage (shard_node store shards s) rs × ((shard_state rs).epoch ≡ greatest_number))
      → (was : List Record) × stops state honest store shards old (shard s) was × (epoch_of (shard s) was ≡ greatest_number)

  -- if a device fails in it, a device of the node failed
  abbrev pub FailedShardsHaveCause : Type 0
  FailedShardsHaveCause = (old new : NodeName → D × D) (s : ℕ) (a b : D) → AreRevived old (shard s) a b
      → HasFailed (state a) (state (new (shard s)).0) ⊎ HasFailed (state b) (state (new (shard s)).1)
      → HasDeviceCause state honest moment left_since store shards old new (shard s)

  -- None is damaged: over the devices of a store at rest, whose contents hold records, it never answers Damaged, of which this is the clause.
  abbrev pub NoShardIsDamaged : Type 0
  NoShardIsDamaged = (old : NodeName → D × D) (s : ℕ) (a b : D) (log : List Entry) (kept h : ℕ) → AreRevived old (shard s) a b → s < shards
      → Rests store shards log kept h (stops state honest store shards old coordinator) (at_shards (stops state honest store shards old))
      → ((rs : List Record) × stops state honest store shards old coordinator rs)
      → ((x y : List ℕ) → left (state (old (shard s)).0) x → left (state (old (shard s)).1) y → (rs : List Record) × (found x y ≡ Some rs))
      → ((rs : List Record) → found (state a).seen (state b).seen ≡ Some rs → IsShardImage (shard_node store shards s) rs → ⊥) → ⊥
