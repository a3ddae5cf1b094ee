-- The bytes of a batch of records. Numbers are big-endian.
use Rattle.std.specs.Prelude.{◌≡◌, ◌≤◌, ◌<◌, ◌+◌, ◌^◌, ◌⊎◌, ℕ, Bool, true, false, List, [], ◌∷◌, ◌++◌, length}
use Rattle.std.specs.List.{flat_map, AllByRecursion}
use Rattle.std.specs.Int.{w16, w64, to_be_bytes}
use Rattle.tuples.specs.declared.object.Object.{Object}
use Rattle.tuples.specs.declared.user.User.{User}
use Rattle.tuples.specs.declared.user.User.TheVariants.{Id, Set}
use Rattle.tuples.specs.declared.tuple.Tuple.{Tuple}
use Rattle.tuples.specs.declared.change.Change.{Change}
use Rattle.tuples.specs.declared.change.Change.TheVariants.{Touch, Delete}
use Rattle.tuples.specs.declared.change.Condition.{Condition}
use Rattle.tuples.specs.declared.change.Want.{Want}
use Rattle.tuples.specs.declared.change.Want.TheVariants.{NotAfter, Exists, Absent}
use Rattle.tuples.specs.declared.entry.Entry.{Entry}
use Rattle.tuples.specs.declared.entry.WriteId.{WriteId}
use Rattle.tuples.specs.Changes.{IsPart, IsWrite, tuple_of}
use Rattle.tuples.specs.Limits.{max_shards}
use Rattle.tuples.specs.Texts.{IsTuple}
use Rattle.records.specs.declared.mark.Mark.{Mark}
use Rattle.records.specs.declared.mark.Mark.TheVariants.{Begins, Row, Ends}
use Rattle.records.specs.declared.record.PlacedId.{PlacedId}
use Rattle.records.specs.declared.record.Record.{Record}
use Rattle.records.specs.declared.record.Record.TheVariants.{Prepare, Learned, Dropped, Epoch, Decision, Horizon, Checkpoint}

-- records of a batch
abbrev pub max_records : ℕ
max_records = 65535

-- placed ids of one Learned record
abbrev pub max_placed_ids : ℕ
max_placed_ids = 256

-- one byte of length, and that many bytes
abbrev pub text_bytes : List ℕ → List ℕ
text_bytes bytes = length bytes ∷ bytes

abbrev pub id_bytes : WriteId → List ℕ
id_bytes id = to_be_bytes w64 id.epoch ++ to_be_bytes w64 id.number

abbrev pub object_bytes : Object → List ℕ
object_bytes o = text_bytes o.namespace ++ text_bytes o.id

abbrev pub user_bytes : User → List ℕ
user_bytes (Id i) = 1 ∷ text_bytes i
user_bytes (Set s) = 2 ∷ object_bytes s.object ++ text_bytes s.relation

abbrev pub tuple_bytes : Tuple → List ℕ
tuple_bytes t = object_bytes t.object ++ text_bytes t.relation ++ user_bytes t.user

abbrev pub change_bytes : Change → List ℕ
change_bytes (Touch t) = 1 ∷ tuple_bytes t
change_bytes (Delete t) = 2 ∷ tuple_bytes t

-- what is wanted, in version 1 (if the flag says so) a place alone
abbrev pub want_bytes : Bool → Want → List ℕ
want_bytes true (NotAfter place) = to_be_bytes w64 place
want_bytes true Exists = []
want_bytes true Absent = []
want_bytes false (NotAfter place) = 1 ∷ to_be_bytes w64 place
want_bytes false Exists = 2 ∷ []
want_bytes false Absent = 3 ∷ []

abbrev pub condition_bytes : Bool → Condition → List ℕ
condition_bytes first c = tuple_bytes c.tuple ++ want_bytes first c.want

-- the id, the changes and the conditions, each list after its number
abbrev pub entry_bytes : Bool → Entry → List ℕ
entry_bytes first w = id_bytes w.id ++ length w.changes ∷ flat_map change_bytes w.changes ++ length w.conditions ∷ flat_map (condition_bytes first) w.conditions

abbrev pub placed_id_bytes : PlacedId → List ℕ
placed_id_bytes p = id_bytes p.id ++ to_be_bytes w64 p.place

-- the kind of a mark, and its fields
abbrev pub mark_bytes : Mark → List ℕ
mark_bytes (Begins generation) = 0 ∷ to_be_bytes w64 generation
mark_bytes (Row place change) = 1 ∷ to_be_bytes w64 place ++ change_bytes change
mark_bytes (Ends generation) = 2 ∷ to_be_bytes w64 generation

-- the kind, and its fields
unfoldable pub record_bytes : Bool → Record → List ℕ
record_bytes first (Prepare w) = 1 ∷ entry_bytes first w
record_bytes first (Learned to placed_ids) = 2 ∷ to_be_bytes w64 to ++ to_be_bytes w16 (length placed_ids) ++ flat_map placed_id_bytes placed_ids
record_bytes first (Dropped id) = 3 ∷ id_bytes id
record_bytes first (Epoch epoch store shards node) = 4 ∷ to_be_bytes w64 epoch ++ to_be_bytes w64 store ++ shards ∷ node ∷ []
record_bytes first (Decision place w) = 5 ∷ to_be_bytes w64 place ++ entry_bytes first w
record_bytes first (Horizon place) = 6 ∷ to_be_bytes w64 place
record_bytes first (Checkpoint mark) = 7 ∷ mark_bytes mark

-- version, number of records, and the records
unfoldable pub batch_bytes : Bool → List Record → List ℕ
batch_bytes true rs = 1 ∷ to_be_bytes w16 (length rs) ++ flat_map (record_bytes true) rs
batch_bytes false rs = 2 ∷ to_be_bytes w16 (length rs) ++ flat_map (record_bytes false) rs

abbrev pub Fits64 : ℕ → Type 0
Fits64 n = n < 2 ^ 64

-- epochs and numbers of writes begin at 1
pub record IsWriteId (id : WriteId) : Type 0 where
  pub epoch : 1 ≤ id.epoch
  pub epoch_fits : Fits64 id.epoch
  pub number : 1 ≤ id.number
  pub number_fits : Fits64 id.number

abbrev pub WantFits : Want → Type 0
WantFits (NotAfter place) = Fits64 place
WantFits Exists = Unit {0}
WantFits Absent = Unit {0}

abbrev pub ConditionsFit : List Condition → Type 0
ConditionsFit = AllByRecursion (λ (c : Condition). WantFits c.want)

-- places of placed ids rise strictly, and end at most at this one
abbrev pub AreRisingTo : ℕ → List PlacedId → Type 0
AreRisingTo to [] = Unit {0}
AreRisingTo to (p ∷ []) = p.place ≤ to
AreRisingTo to (p ∷ q ∷ placed_ids) = (p.place < q.place) × AreRisingTo to (q ∷ placed_ids)

-- a write's part has a change or a condition
pub record IsPrepared (w : Entry) : Type 0 where
  pub id : IsWriteId w.id
  pub part : IsPart w.changes w.conditions
  pub some : 1 ≤ length w.changes + length w.conditions
  pub wants : ConditionsFit w.conditions

pub record IsLearned (to : ℕ) (placed_ids : List PlacedId) : Type 0 where
  pub to_fits : Fits64 to
  pub few : length placed_ids ≤ max_placed_ids
  pub ids : AllByRecursion (λ (p : PlacedId). IsWriteId p.id) placed_ids
  pub places : AreRisingTo to placed_ids

pub record IsEpoch (epoch store shards node : ℕ) : Type 0 where
  pub epoch_fits : Fits64 epoch
  pub store_fits : Fits64 store
  pub some : 1 ≤ shards
  pub few : shards ≤ max_shards
  pub node_fits : node < 2 ^ 8

pub record IsDecision (place : ℕ) (w : Entry) : Type 0 where
  pub place_fits : Fits64 place
  pub id : IsWriteId w.id
  pub write : IsWrite w.changes w.conditions
  pub wants : ConditionsFit w.conditions

pub record IsRow (place : ℕ) (change : Change) : Type 0 where
  pub place_fits : Fits64 place
  pub tuple : IsTuple (tuple_of change)

abbrev pub IsMark : Mark → Type 0
IsMark (Begins generation) = Fits64 generation
IsMark (Row place change) = IsRow place change
IsMark (Ends generation) = Fits64 generation

-- what has a spelling
abbrev pub IsRecord : Record → Type 0
IsRecord (Prepare w) = IsPrepared w
IsRecord (Learned to placed_ids) = IsLearned to placed_ids
IsRecord (Dropped id) = IsWriteId id
IsRecord (Epoch epoch store shards node) = IsEpoch epoch store shards node
IsRecord (Decision place w) = IsDecision place w
IsRecord (Horizon place) = Fits64 place
IsRecord (Checkpoint mark) = IsMark mark

abbrev pub AreRecords : List Record → Type 0
AreRecords = AllByRecursion IsRecord

abbrev pub IsPlace : Want → Type 0
IsPlace (NotAfter place) = Unit {0}
IsPlace Exists = ⊥
IsPlace Absent = ⊥

abbrev pub ArePlaces : List Condition → Type 0
ArePlaces = AllByRecursion (λ (c : Condition). IsPlace c.want)

-- a record that version 1 can spell
abbrev pub IsOfFirst : Record → Type 0
IsOfFirst (Prepare w) = ArePlaces w.conditions
IsOfFirst (Decision place w) = ArePlaces w.conditions
IsOfFirst (Learned to placed_ids) = Unit {0}
IsOfFirst (Dropped id) = Unit {0}
IsOfFirst (Epoch epoch store shards node) = Unit {0}
IsOfFirst (Horizon place) = Unit {0}
IsOfFirst (Checkpoint mark) = Unit {0}

-- the bytes are a batch of these records, in version 2 or, if version 1 can spell them, in that
pub record IsBatch (bytes : List ℕ) (rs : List Record) : Type 0 where
  pub some : 1 ≤ length rs
  pub few : length rs ≤ max_records
  pub records : AreRecords rs
  pub spelled : (bytes ≡ batch_bytes false rs) ⊎ ((bytes ≡ batch_bytes true rs) × AllByRecursion IsOfFirst rs)
