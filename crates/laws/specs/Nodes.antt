-- The nodes of a store at a moment, seen as lists of records.
use Rattle.std.specs.Prelude.{◌≡◌, ◌≢◌, ◌⊎◌, ◌≤◌, ◌<◌, ◌-◌, ℕ, List, [], ◌∷◌, ◌++◌, drop}
use Rattle.refusal.specs.Refusals.{IsOneOf}
use Rattle.tuples.specs.declared.entry.Entry.{Entry}
use Rattle.tuples.specs.declared.entry.WriteId.{WriteId}
use Rattle.refusal.specs.declared.refusal.Refusal.{Refusal}
use Rattle.refusal.specs.declared.refusal.Refusal.TheVariants.{Down, NoMemory, Full}
use Rattle.records.specs.declared.record.Record.{Record}
use Rattle.records.specs.declared.record.Record.TheVariants.{Epoch}
use Rattle.records.specs.Coordinators.{CoordinatorState, IsCoordinatorImage, coordinator_state, end_of}
use Rattle.records.specs.Identity.{coordinator_number}
use Rattle.records.specs.Replays.{Identity, IsShardImage, ShardState, shard_state}
use Rattle.replay.specs.Alike.{IsAlike}
use Rattle.laws.specs.Worlds.{WithStaged}

-- which node
pub data NodeName : Type 0 where
  coordinator : NodeName
  shard : ℕ → NodeName

-- the store has this node
abbrev pub IsThere : ℕ → NodeName → Type 0
IsThere shards coordinator = Unit {0}
IsThere shards (shard s) = s < shards

-- A node: up, with its durable and its staged records; down, since a device of it failed; or its opening was refused.
pub data NodeState : Type 0 where
  up : List Record → List Record → NodeState
  down : NodeState
  refused : Refusal → NodeState

-- with what an opening is refused for as long as the node is there: a device failed, memory, or the last epoch
abbrev pub IsOfRefusedOpening : Refusal → Type 0
IsOfRefusedOpening e = IsOneOf e (Down ∷ NoMemory ∷ Full ∷ [])

-- a node that is up stages one more record, which is not an opening
pub record StagesMore (old new : NodeState) : Type 0 where
  pub durable : List Record
  pub staged : List Record
  pub next : Record
  pub was : old ≡ up durable staged
  pub now : new ≡ up durable (staged ++ next ∷ [])
  pub no_opening : (epoch store shards node : ℕ) → next ≡ Epoch epoch store shards node → ⊥

-- A coordinator knows the same, except that it may have forgotten the first decisions at or below its horizon.
pub record StandsForSame (old new : CoordinatorState) : Type 0 where
  pub horizon : new.horizon ≡ old.horizon
  pub epoch : new.epoch ≡ old.epoch
  pub above : old.base ≤ new.base
  pub within : (new.base ≤ old.base) ⊎ (new.base ≤ old.horizon)
  pub log : new.log ≡ drop (new.base - old.base) old.log
  pub end : end_of new ≡ end_of old

-- Records of a node stand for the same as others: a node that can have the others can have them.
abbrev pub StandFor : NodeName → List Record → List Record → Type 0
StandFor coordinator old new = StandsForSame (coordinator_state old) (coordinator_state new) × ((me : Identity) → IsCoordinatorImage me old → IsCoordinatorImage me new)
StandFor (shard s) old new = IsAlike (shard_state old) (shard_state new) × ((me : Identity) → IsShardImage me old → IsShardImage me new)

-- what a node had staged is durable, by the same records or by others that stand for the same
pub record FlushesAll (n : NodeName) (old new : NodeState) : Type 0 where
  pub durable : List Record
  pub staged : List Record
  pub records : List Record
  pub was : old ≡ up durable staged
  pub now : new ≡ up records []
  pub stand_for : StandFor n (durable ++ staged) records

-- a node that was up goes down
pub record GoesDown (old new : NodeState) : Type 0 where
  pub durable : List Record
  pub staged : List Record
  pub was : old ≡ up durable staged
  pub now : new ≡ down

-- What a call may do to the node that it calls: nothing, one more record, a flush, or it goes down. No call but an opening opens it.
abbrev pub NodeTurns : NodeName → NodeState → NodeState → Type 0
NodeTurns n old new = (new ≡ old) ⊎ (StagesMore old new ⊎ (FlushesAll n old new ⊎ GoesDown old new))

-- the record of the opening of this node of the store, and how often the node was opened by its records
abbrev pub opening_record : ℕ → ℕ → NodeName → ℕ → Record
opening_record store shards coordinator epoch = Epoch epoch store shards coordinator_number
opening_record store shards (shard s) epoch = Epoch epoch store shards s

abbrev pub epoch_of : NodeName → List Record → ℕ
epoch_of coordinator rs = (coordinator_state rs).epoch
epoch_of (shard s) rs = (shard_state rs).epoch

-- all nodes; of the coordinator also what lies in its memory alone, until it is opened again: the writes that are open, and the last number that
-- it gave in its epoch
pub record Nodes : Type 0 where
  pub at : NodeName → NodeState
  pub open_writes : List Entry
  pub given : ℕ

-- what a node has staged: nothing if it is not up
abbrev pub staged_of : NodeState → List Record
staged_of (up durable staged) = staged
staged_of down = []
staged_of (refused e) = []

-- what a stop may leave of a node, with what it has staged or without
abbrev pub leaves : (NodeName → List Record → Type 0) → Nodes → NodeName → List Record → Type 0
leaves left nodes n = WithStaged (left n) (staged_of (nodes.at n))

-- a shard is up and knows this
pub record ShardKnows (nodes : Nodes) (s : ℕ) (memory : ShardState) : Type 0 where
  pub durable : List Record
  pub staged : List Record
  pub is_up : nodes.at (shard s) ≡ up durable staged
  pub replayed : memory ≡ shard_state (durable ++ staged)

-- the coordinator is up: what its durable records stand for, and what it knows with the staged ones
pub record CoordinatorKnows (nodes : Nodes) (kept memory : CoordinatorState) : Type 0 where
  pub durable : List Record
  pub staged : List Record
  pub is_up : nodes.at coordinator ≡ up durable staged
  pub durable_state : kept ≡ coordinator_state durable
  pub replayed : memory ≡ coordinator_state (durable ++ staged)

-- an id that the coordinator gave in an earlier epoch, or in this one as the last or before
abbrev pub IsGivenBy : Nodes → CoordinatorState → WriteId → Type 0
IsGivenBy nodes memory id = (id.epoch < memory.epoch) ⊎ ((id.epoch ≡ memory.epoch) × (id.number ≤ nodes.given))

-- no node but this one has changed
pub record SameBut (n : NodeName) (old new : Nodes) : Type 0 where
  pub others : (m : NodeName) → m ≢ n → new.at m ≡ old.at m
  pub open_writes : n ≢ coordinator → new.open_writes ≡ old.open_writes
  pub given : n ≢ coordinator → new.given ≡ old.given
