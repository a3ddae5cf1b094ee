-- The cause of each refusal of a flow, true at the call that gave it.
use Rattle.std.specs.Prelude.{◌≡◌, ◌≢◌, ◌⊎◌, ◌≤◌, ◌<◌, ◌+◌, ◌-◌, ℕ, true, false, List, [], ◌∷◌, ◌++◌, length, drop, take, Option, None, Some, Contains, slice_get}
use Rattle.tuples.specs.Limits.{max_open, max_walked}
use Rattle.tuples.specs.declared.change.Condition.{Condition}
use Rattle.tuples.specs.declared.change.Want.TheVariants.{NotAfter}
use Rattle.tuples.specs.declared.change.Change.{Change}
use Rattle.tuples.specs.declared.entry.WriteId.{WriteId}
use Rattle.tuples.specs.declared.object.Userset.{Userset}
use Rattle.refusal.specs.declared.refusal.Refusal.{Refusal}
use Rattle.refusal.specs.declared.refusal.Refusal.TheVariants.{BadRequest, BadTuple, TooLarge, Repeated, BadZookie, WrongStore, Future, Collected, Precondition, Busy, Aborted, Unsure, Down, NoMemory, Full, Damaged}
use Rattle.tuples.specs.declared.tuple.Tuple.{Tuple}
use Rattle.tuples.specs.declared.tupleset.Tupleset.{Tupleset}
use Rattle.tuples.specs.declared.tupleset.Tupleset.TheVariants.{Key, OfObject, OfUser}
use Rattle.tuples.specs.declared.entry.Entry.{Entry}
use Rattle.tuples.specs.Changes.{changed, conditioned, has_tuple}
use Rattle.tuples.specs.Checking.{ReachesMoreThan}
use Rattle.tuples.specs.Log.{HoldAfter, is_at}
use Rattle.tuples.specs.Parts.{part, shard_of}
use Rattle.records.specs.declared.record.PlacedId.{PlacedId}
use Rattle.records.specs.declared.record.Record.{Record}
use Rattle.records.specs.declared.record.Record.TheVariants.{Decision, Horizon, Learned, Prepare}
use Rattle.records.specs.Checkpoints.{generation_of}
use Rattle.records.specs.Coordinators.{CoordinatorState}
use Rattle.records.specs.Format.{IsRecord}
use Rattle.records.specs.Replays.{ShardState, is_held, named, greatest_number, shard_state}
use Rattle.journal.specs.Records.{HasNoRoom}
use Rattle.decisions.specs.Standing.{DecidedValue}
use Rattle.shard.specs.Shards.{placed_ids_from}
use Rattle.laws.specs.Machines.{Machine}
use Rattle.laws.specs.Nodes.{NodeName, coordinator, shard, up, down, refused, Nodes, ShardKnows, CoordinatorKnows}
use Rattle.stores.specs.Flows.{id_of, place_of, Freshness, latest, at_least, exact, Asked, to_write, to_read, to_check, to_watch, to_flush, to_learn, to_resolve, to_raise, to_collect, HeldTicket, Holds, checking, reading, writing}
use Rattle.stores.specs.Moments.{Moment, Running, WasKept}
use Rattle.stores.specs.Replies.{IsPlaceOf}

-- a condition names this place
abbrev pub NamesPlace : List Condition → ℕ → Type 0
NamesPlace conditions place = (c : Condition) × Contains conditions c × (c.want ≡ NotAfter place)

-- a place above the end of the log was asked for
abbrev pub WantsFuture : ℕ → Freshness → Type 0
WantsFuture n latest = ⊥
WantsFuture n (at_least z) = n < z
WantsFuture n (exact z) = n < z

-- Future: what was asked names a place above the end of the log, or, to raise the horizon, one above the kept place
abbrev pub IsFuture : Machine → Asked → Type 0
IsFuture m (to_write changes conditions) = (place : ℕ) × NamesPlace conditions place × (length m.log < place)
IsFuture m (to_read fresh sets) = WantsFuture (length m.log) fresh
IsFuture m (to_check fresh x u) = WantsFuture (length m.log) fresh
IsFuture m (to_watch c limit names) = length m.log < c
IsFuture m (to_flush n) = ⊥
IsFuture m (to_learn s) = ⊥
IsFuture m (to_resolve s) = ⊥
IsFuture m (to_raise x) = m.kept < x
IsFuture m (to_collect s) = ⊥

-- the flow has found this place, which was kept after one of its turns, and has since fallen below the horizon
abbrev pub HasFallenBelow : ℕ → Running → ℕ → Type 0
HasFallenBelow h r s = (place_of r.holds ≡ Some s) × WasKept r s × (s < h)

-- the place of an answer lies below the horizon: the one that was asked for, or the one that the flow has found
abbrev pub WantsBelow : ℕ → Running → Freshness → Type 0
WantsBelow h r latest = (s : ℕ) × HasFallenBelow h r s
WantsBelow h r (at_least z) = (s : ℕ) × HasFallenBelow h r s
WantsBelow h r (exact z) = z < h

-- Collected: a place below the horizon is needed
abbrev pub IsBelow : ℕ → Running → Asked → Type 0
IsBelow h r (to_write changes conditions) = (place : ℕ) × NamesPlace conditions place × (place < h)
IsBelow h r (to_read fresh sets) = WantsBelow h r fresh
IsBelow h r (to_check fresh x u) = WantsBelow h r fresh
IsBelow h r (to_watch c limit names) = c < h
IsBelow h r (to_flush m) = ⊥
IsBelow h r (to_learn s) = ⊥
IsBelow h r (to_resolve s) = ⊥
IsBelow h r (to_raise x) = x < h
IsBelow h r (to_collect s) = ⊥

-- the tuple's shard, of this many, is up and knows this
abbrev pub OwnerKnows : ℕ → Nodes → Tuple → ShardState → Type 0
OwnerKnows shards nodes t memory = ShardKnows nodes (shard_of shards t.object) memory

-- Precondition: a condition of the write is not met after the log, and at its shard, which is called, no write in doubt names its tuple
abbrev pub IsBroken : ℕ → NodeName → Moment → Asked → Type 0
IsBroken shards n now (to_write changes conditions) = (c : Condition) × Contains conditions c × (n ≡ shard (shard_of shards c.tuple.object)) × (HoldAfter now.machine.log (c ∷ []) → ⊥)
    × ((memory : ShardState) × OwnerKnows shards now.nodes c.tuple memory × (is_held c.tuple memory.in_doubt ≡ false))
IsBroken shards n now asked = ⊥

-- at its shard a write in doubt other than this one names the tuple
pub record IsHeldByOther (shards : ℕ) (nodes : Nodes) (own : Option WriteId) (t : Tuple) : Type 0 where
  pub memory : ShardState
  pub knows : OwnerKnows shards nodes t memory
  pub other : Entry
  pub in_doubt : Contains memory.in_doubt other
  pub names : has_tuple t (named other) ≡ true
  pub not_own : own ≡ Some other.id → ⊥

-- Busy: at its shard, which is called, a write in doubt, which is not the flow's own, names a tuple of the write
abbrev pub IsBusy : ℕ → NodeName → Moment → Option WriteId → Asked → Type 0
IsBusy shards n now own (to_write changes conditions) = (t : Tuple) × Contains (changed changes ++ conditioned conditions) t × (n ≡ shard (shard_of shards t.object))
    × IsHeldByOther shards now.nodes own t
IsBusy shards n now own asked = ⊥

-- the coordinator was opened since it gave this id: since the flow began, and in a later epoch if it is up
pub record IsLost (nodes : Nodes) (r : Running) (id : WriteId) : Type 0 where
  pub reopened : r.is_reopened ≡ true
  pub later : (kept memory : CoordinatorState) → CoordinatorKnows nodes kept memory → id.epoch < memory.epoch

-- Aborted: the coordinator was opened since it gave the write's id, or a shard since it gave a ticket
abbrev pub IsCutOff : Nodes → Running → Holds → Type 0
IsCutOff nodes r (writing h) = ((id : WriteId) × (h.id ≡ Some id) × IsLost nodes r id)
    ⊎ ((t : HeldTicket) × (memory : ShardState) × Contains h.tickets t × ShardKnows nodes t.shard memory × (t.epoch < memory.epoch))
IsCutOff nodes r holds = ⊥

-- Unsure: the write was decided, and since then the coordinator went down or was opened
abbrev pub IsUnsure : Nodes → Running → Type 0
IsUnsure nodes r = (d : DecidedValue) × (r.decided ≡ Some d)
    × ((kept memory : CoordinatorState) → CoordinatorKnows nodes kept memory → d.epoch < memory.epoch)

-- the shards that a tupleset asks: the one with its object, or each in its turn, once the ones below it were asked
abbrev pub Needs : ℕ → Tupleset → ℕ → ℕ → Type 0
Needs shards (Key t) below s = s ≡ shard_of shards t.object
Needs shards (OfObject o relation) below s = s ≡ shard_of shards o
Needs shards (OfUser n u relation) below s = s ≡ below

-- a write that is begun calls the shards of the tuples that it names
abbrev pub WritesAt : ℕ → List Change → List Condition → Holds → ℕ → Type 0
WritesAt shards changes conditions holds s = (id_of holds ≢ None) × ((t : Tuple) × Contains (changed changes ++ conditioned conditions) t × (s ≡ shard_of shards t.object))

-- a read that has found its place calls a shard of the tupleset that it reads now
abbrev pub ReadsAt : ℕ → List Tupleset → Holds → ℕ → Type 0
ReadsAt shards sets (reading h) s = (h.place ≢ None) × ((q : Tupleset) × (slice_get sets (length h.done) ≡ Some q) × Needs shards q h.below s)
ReadsAt shards sets holds s = ⊥

-- a check that has found its place calls the shard of the first userset that waits
abbrev pub ChecksAt : ℕ → Holds → ℕ → Type 0
ChecksAt shards (checking h) s = (h.place ≢ None) × ((y : Userset) × (slice_get h.waiting 0 ≡ Some y) × (s ≡ shard_of shards y.object))
ChecksAt shards holds s = ⊥

-- a flow that holds this may call this shard next
abbrev pub CallsShard : ℕ → Asked → Holds → ℕ → Type 0
CallsShard shards (to_write changes conditions) holds s = WritesAt shards changes conditions holds s
CallsShard shards (to_read fresh sets) holds s = ReadsAt shards sets holds s
CallsShard shards (to_check fresh x u) holds s = ChecksAt shards holds s
CallsShard shards (to_watch c limit names) holds s = ⊥
CallsShard shards (to_flush n) holds s = n ≡ shard s
CallsShard shards (to_learn t) holds s = s ≡ t
CallsShard shards (to_resolve t) holds s = s ≡ t
CallsShard shards (to_raise x) holds s = Unit {0}
CallsShard shards (to_collect t) holds s = s ≡ t

-- a flow that holds this may call this node next: the coordinator, unless a shard is to be flushed, or a shard
abbrev pub Calls : ℕ → Asked → Holds → NodeName → Type 0
Calls shards asked holds coordinator = (s : ℕ) → asked ≡ to_flush (shard s) → ⊥
Calls shards asked holds (shard s) = (s < shards) × CallsShard shards asked holds s

-- Down: the node that the turn calls went down since its opening, or in it
abbrev pub IsDown : Nodes → NodeName → Type 0
IsDown nodes n = (nodes.at n ≡ down) ⊎ (nodes.at n ≡ refused Down)

-- a flow takes memory: each but a collection, and a flush only if it is a checkpoint
abbrev pub TakesMemory : Asked → Type 0
TakesMemory (to_collect s) = ⊥
TakesMemory asked = Unit {0}

-- a write is the one that a flow was asked to make, under the id that it holds
pub record IsOwnWrite (asked : Asked) (own : Option WriteId) (w : Entry) : Type 0 where
  pub asks : asked ≡ to_write w.changes w.conditions
  pub id : own ≡ Some w.id

-- a flow lets a shard that it calls learn: each but a flush, a watch and a collection
abbrev pub LetsLearn : Asked → Type 0
LetsLearn (to_flush n) = ⊥
LetsLearn (to_watch c limit names) = ⊥
LetsLearn (to_collect s) = ⊥
LetsLearn asked = Unit {0}

-- What shard s, which knows these records, learns: of the log's writes after those that it has learned, up to a kept place, the ones in which it takes
-- part, each with its place.
pub record IsToLearn (shards s : ℕ) (m : Machine) (known : List Record) (to : ℕ) (placed_ids : List PlacedId) : Type 0 where
  pub more : (shard_state known).learned < to
  pub kept : to ≤ m.kept
  pub placed : placed_ids ≡ placed_ids_from shards s ((shard_state known).learned + 1) (take (to - (shard_state known).learned) (drop (shard_state known).learned m.log))

-- A flow of a write with this id, if it has one, stages such a record at a node that knows these: at the coordinator its decision, or a raise its horizon;
-- at a shard its part, what is to be learned there, or a collection its horizon. A drop that finds no room is left for later, and is not reported.
abbrev pub Stages : ℕ → Machine → List Record → Asked → Option WriteId → NodeName → Record → Type 0
Stages shards m known asked own coordinator (Decision place w) = IsOwnWrite asked own w
Stages shards m known asked own coordinator (Horizon place) = asked ≡ to_raise place
Stages shards m known asked own (shard s) (Prepare p) = (w : Entry) × IsOwnWrite asked own w × (p ≡ part shards s w)
Stages shards m known asked own (shard s) (Learned to placed_ids) = LetsLearn asked × IsToLearn shards s m known to placed_ids
Stages shards m known asked own (shard s) (Horizon place) = asked ≡ to_collect s
Stages shards m known asked own n r = ⊥

-- the node that the turn calls is up, and what it has staged leaves no room for the record that the flow has to stage there
pub record HasFullBatch (shards : ℕ) (n : NodeName) (now : Moment) (r : Running) : Type 0 where
  pub durable : List Record
  pub staged : List Record
  pub next : Record
  pub calls : Calls shards r.asked r.holds n
  pub is_up : now.nodes.at n ≡ up durable staged
  pub stages : Stages shards now.machine (durable ++ staged) r.asked (id_of r.holds) n next
  pub is_record : IsRecord next
  pub no_room : HasNoRoom staged next

-- a write meets a limit of the coordinator: of open writes, of numbers or of places
abbrev pub HasNoNumber : Moment → Type 0
HasNoNumber now = (max_open ≤ length now.nodes.open_writes) ⊎ ((greatest_number ≤ now.nodes.given) ⊎ (greatest_number ≤ length now.machine.log))

-- the node that the turn calls is up, and its records begin with the last checkpoint that there may be
pub record HasLastGeneration (shards : ℕ) (n : NodeName) (now : Moment) (r : Running) : Type 0 where
  pub durable : List Record
  pub staged : List Record
  pub calls : Calls shards r.asked r.holds n
  pub is_up : now.nodes.at n ≡ up durable staged
  pub last : greatest_number ≤ generation_of durable

-- Full: a limit is met: of the node that is called, or of the usersets that a check walks at its place
abbrev pub IsFull : ℕ → NodeName → Moment → Running → Asked → Type 0
IsFull shards n now r (to_write changes conditions) = HasFullBatch shards n now r ⊎ ((n ≡ coordinator) × HasNoNumber now)
IsFull shards n now r (to_check fresh x u) = HasFullBatch shards n now r
    ⊎ ((s : ℕ) × (place_of r.holds ≡ Some s) × IsPlaceOf fresh r now.machine s × ReachesMoreThan max_walked (is_at now.machine.log s) x)
IsFull shards n now r (to_flush m) = HasFullBatch shards n now r ⊎ HasLastGeneration shards n now r
IsFull shards n now r asked = HasFullBatch shards n now r

-- The cause of a refusal by this node, which the turn calls, and which is open, seen before the call and, for what fails in it, after it. Requests were
-- tested before they became flows, so the first six have none; memory needs none if some is taken; and no node of a store that stands is damaged.
abbrev pub IsCause : ℕ → NodeName → Moment → Moment → Running → Refusal → Type 0
IsCause shards n before after r BadRequest = ⊥
IsCause shards n before after r BadTuple = ⊥
IsCause shards n before after r TooLarge = ⊥
IsCause shards n before after r Repeated = ⊥
IsCause shards n before after r BadZookie = ⊥
IsCause shards n before after r WrongStore = ⊥
IsCause shards n before after r Future = IsFuture before.machine r.asked
IsCause shards n before after r Collected = IsBelow before.machine.horizon r r.asked
IsCause shards n before after r Precondition = IsBroken shards n before r.asked
IsCause shards n before after r Busy = IsBusy shards n before (id_of r.holds) r.asked
IsCause shards n before after r Aborted = IsCutOff before.nodes r r.holds
IsCause shards n before after r Unsure = IsUnsure after.nodes r
IsCause shards n before after r Down = Calls shards r.asked r.holds n × IsDown after.nodes n
IsCause shards n before after r NoMemory = TakesMemory r.asked
IsCause shards n before after r Full = IsFull shards n before r r.asked
IsCause shards n before after r Damaged = ⊥

-- a refusal has its cause at the node that the turn calls, or it is that of this node's opening, which it answers again and again
abbrev pub HasItsCause : ℕ → NodeName → Moment → Moment → Running → Refusal → Type 0
HasItsCause shards n before after r e = IsCause shards n before after r e
    ⊎ (Calls shards r.asked r.holds n × (before.nodes.at n ≡ refused e))
