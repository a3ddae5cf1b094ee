-- What a shard is, as its callers see it.
use Rattle.std.specs.Prelude.{◌≡◌, ◌⊎◌, ◌<◌, ◌+◌, ◌-◌, ℕ, Bool, true, false, List, [], ◌∷◌, ◌++◌, length, drop, Some, None, if◌then◌else◌, All, Contains, slice_get}
use Rattle.tuples.specs.declared.tuple.Tuple.{Tuple}
use Rattle.tuples.specs.declared.change.Condition.{Condition}
use Rattle.tuples.specs.declared.change.Want.{Want}
use Rattle.tuples.specs.declared.change.Want.TheVariants.{NotAfter, Exists, Absent}
use Rattle.tuples.specs.declared.entry.Entry.{Entry}
use Rattle.tuples.specs.declared.entry.WriteId.{WriteId}
use Rattle.tuples.specs.Log.{meets_want}
use Rattle.tuples.specs.Parts.{part, takes_part}
use Rattle.tuples.specs.Versions.{there_at, last_version}
use Rattle.records.specs.declared.record.PlacedId.{PlacedId}
use Rattle.records.specs.declared.record.Record.{Record}
use Rattle.records.specs.declared.record.Record.TheVariants.{Learned, Epoch}
use Rattle.records.specs.Replays.{Identity, ShardState, IsShardImage, shard_state, find_in_doubt, is_held, named}
pub use Rattle.holds.specs.Holds.{AreAscendingIds, ids}
use Rattle.device.specs.Device.{State, left}
use Rattle.journal.specs.Records.{Finds, HasRecords, View, WasLeftOrFound, found}
use Rattle.openings.specs.Openings.{LacksRoomToReopen}

-- a shard over two devices: where the list of the current bank ends, what is durable, what is staged, whether a flush failed since the opening, and which shard it is
pub record ShardView (D : Type 0) : Type 0 where
  pub a : D
  pub b : D
  pub end : ℕ
  pub durable : List Record
  pub staged : List Record
  pub is_down : Bool
  pub me : Identity

-- what the shard knows: the replay of its durable and staged records
abbrev pub memory : {D : Type 0} → ShardView D → ShardState
memory v = shard_state (v.durable ++ v.staged)

-- the shard's journal
abbrev pub journal_of : {D : Type 0} → ShardView D → View D
journal_of v = record { a = v.a; b = v.b; end = v.end; durable = v.durable; staged = v.staged; is_down = v.is_down }

-- up, over honest devices, each stop leaving the durable records, which with the staged ones are those of this shard
pub record IsUp {D : Type 0} (state : D → State) (honest : D → Type 0) (v : ShardView D) : Type 0 where
  pub honest_a : honest v.a
  pub honest_b : honest v.b
  pub up : v.is_down ≡ false
  pub rest : HasRecords (state v.a) (state v.b) v.durable
  pub image : IsShardImage v.me (v.durable ++ v.staged)

-- one record more is staged, and nothing else is changed
abbrev pub Stages : {D : Type 0} → ShardView D → Record → ShardView D → Type 0
Stages old r new = new ≡ record old { staged = old.staged ++ r ∷ [] }

-- this shard's part of a write
abbrev pub own_part : {D : Type 0} → ShardView D → Entry → Entry
own_part v w = part v.me.shards v.me.node w

-- no write in doubt has the id of this one, or holds a tuple that it names
pub record AreFree (s : ShardState) (w : Entry) : Type 0 where
  pub new : find_in_doubt w.id s.in_doubt ≡ None
  pub tuples : All (λ (t : Tuple). is_held t s.in_doubt ≡ false) (named w)

-- the conditions hold by the versions that the shard has learned
abbrev pub HoldHere : ShardState → List Condition → Type 0
HoldHere s = All (λ (c : Condition). meets_want c.want (last_version s.rows c.tuple) (there_at s.rows s.learned c.tuple) ≡ true)

-- the condition names a place below the horizon
abbrev pub IsBelow : ℕ → Want → Type 0
IsBelow h (NotAfter place) = place < h
IsBelow h Exists = ⊥
IsBelow h Absent = ⊥

-- one of these conditions names a place below the horizon
pub record AskBelow (h : ℕ) (cs : List Condition) : Type 0 where
  pub condition : Condition
  pub there : Contains cs condition
  pub below : IsBelow h condition.want

-- no condition is below the horizon, and a write in doubt has the id of this one or holds a tuple that it names
pub record IsBusy (s : ShardState) (w : Entry) : Type 0 where
  pub above : AskBelow s.horizon w.conditions → ⊥
  pub taken : AreFree s w → ⊥

-- no condition is below the horizon, no write in doubt is in the way, and a condition does not hold
pub record IsBroken (s : ShardState) (w : Entry) : Type 0 where
  pub above : AskBelow s.horizon w.conditions → ⊥
  pub free : AreFree s w
  pub broken : HoldHere s w.conditions → ⊥

-- nothing that the shard knows forbids to prepare the write
pub record IsPreparable (s : ShardState) (w : Entry) : Type 0 where
  pub above : AskBelow s.horizon w.conditions → ⊥
  pub free : AreFree s w
  pub hold : HoldHere s w.conditions

-- the record of an opening
abbrev pub opening : Identity → List Record → Record
opening me rs = Epoch ((shard_state rs).epoch + 1) me.store me.shards me.node

-- a shard was opened over devices that had these records: they are a shard's, and one opening more is durable
pub record IsOpenedShard {D : Type 0} (state : D → State) (honest : D → Type 0) (a b : D) (me : Identity) (new : ShardView D) : Type 0 where
  pub rs : List Record
  pub was : found (state a).seen (state b).seen ≡ Some rs
  pub image : IsShardImage me rs
  pub durable : new.durable ≡ rs ++ opening me rs ∷ []
  pub up : IsUp state honest new

-- how often a shard of these records was opened
abbrev pub openings_in : List Record → ℕ
openings_in rs = (shard_state rs).epoch

-- a journal that was opened over these devices has no room for the record of an opening
abbrev pub LacksRoomToOpen : {D : Type 0} → (D → State) → (D → Type 0) → D → D → Identity → Type 0
LacksRoomToOpen state honest = LacksRoomToReopen state honest openings_in

-- at a moment of an opening the contents have the records of some that could be left before it, or those found with the opening's
abbrev pub WasLeftOrOpened : Identity → State → State → List ℕ → List ℕ → Type 0
WasLeftOrOpened me sa sb x y = WasLeftOrFound sa sb x y
    ⊎ ((rs : List Record) × (found sa.seen sb.seen ≡ Some rs) × IsShardImage me (rs ++ opening me rs ∷ []) × (found x y ≡ Some (rs ++ opening me rs ∷ [])))

-- the prepare lies in whatever a stop leaves, with exactly this part
abbrev pub IsDurable : {D : Type 0} → (D → State) → ShardView D → WriteId → Entry → Type 0
IsDurable state v id p = (rs : List Record) → Finds (left (state v.a)) (left (state v.b)) rs → find_in_doubt id (shard_state rs).in_doubt ≡ Some p

-- the writes of a batch that the shard has not learned yet: from is the place before the first of them
abbrev pub unlearned : ShardState → ℕ → List Entry → List Entry
unlearned s from writes = drop (s.learned - from) writes

-- the placed ids of these writes, the first of them at this place
abbrev pub placed_ids_from : ℕ → ℕ → ℕ → List Entry → List PlacedId
placed_ids_from shards s place [] = []
placed_ids_from shards s place (w ∷ log) = if takes_part shards s w then record { id = w.id; place = place } ∷ placed_ids_from shards s (place + 1) log else placed_ids_from shards s (place + 1) log

-- the record of learning them
abbrev pub learning : Identity → ShardState → ℕ → List Entry → Record
learning me s from writes = Learned (from + length writes) (placed_ids_from me.shards me.node (s.learned + 1) (unlearned s from writes))

-- each of these writes is in doubt at the shard with exactly its part, if it has one
abbrev pub ArePreparedHere : Identity → ShardState → List Entry → Type 0
ArePreparedHere me s writes = (j : ℕ) (w : Entry) → slice_get writes j ≡ Some w → takes_part me.shards me.node w ≡ true
    → find_in_doubt w.id s.in_doubt ≡ Some (part me.shards me.node w)

-- no two of these writes have one id
abbrev pub AreNewIds : List Entry → Type 0
AreNewIds writes = (i j : ℕ) (v w : Entry) → slice_get writes i ≡ Some v → slice_get writes j ≡ Some w → v.id ≡ w.id → i ≡ j

-- no two of these writes have one id, and each is in doubt at the shard with exactly its part
pub record AreLearnable (me : Identity) (s : ShardState) (writes : List Entry) : Type 0 where
  pub new : AreNewIds writes
  pub prepared : ArePreparedHere me s writes
