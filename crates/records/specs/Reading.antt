-- What bytes are read as, from the left: a value and the bytes after it, or nothing. Numbers are big-endian.
use Rattle.std.specs.Prelude.{◌+◌, ℕ, zero, suc, Bool, true, false, not, ◌&&◌, ◌==◌, nat_lt, nat_le, List, [], ◌∷◌, length, take, drop, Option, Some, None, if◌then◌else◌}
use Rattle.std.specs.Int.{Width, w16, w64, byte_len, from_be_bytes}
use Rattle.std.specs.List.{list_all}
use Rattle.tuples.specs.declared.object.Object.{Object}
use Rattle.tuples.specs.declared.object.Userset.{Userset}
use Rattle.tuples.specs.declared.user.User.{User}
use Rattle.tuples.specs.declared.user.User.TheVariants.{Id, Set}
use Rattle.tuples.specs.declared.tuple.Tuple.{Tuple}
use Rattle.tuples.specs.declared.change.Change.{Change}
use Rattle.tuples.specs.declared.change.Change.TheVariants.{Touch, Delete}
use Rattle.tuples.specs.declared.change.Condition.{Condition}
use Rattle.tuples.specs.declared.change.Want.{Want}
use Rattle.tuples.specs.declared.change.Want.TheVariants.{NotAfter, Exists, Absent}
use Rattle.tuples.specs.declared.entry.Entry.{Entry}
use Rattle.tuples.specs.declared.entry.WriteId.{WriteId}
use Rattle.tuples.specs.Changes.{changed, conditioned, has_tuple}
use Rattle.tuples.specs.Limits.{max_changes, max_conditions, max_id, max_name, max_shards}
use Rattle.tuples.specs.Names.{is_id_byte, is_name_byte}
use Rattle.records.specs.declared.mark.Mark.{Mark}
use Rattle.records.specs.declared.mark.Mark.TheVariants.{Begins, Row, Ends}
use Rattle.records.specs.declared.record.PlacedId.{PlacedId}
use Rattle.records.specs.declared.record.Record.{Record}
use Rattle.records.specs.declared.record.Record.TheVariants.{Prepare, Learned, Dropped, Epoch, Decision, Horizon, Checkpoint}
use Rattle.records.specs.Format.{max_placed_ids}

infixl 10 ◌>>=◌
abbrev pub ◌>>=◌ : {A B : Type 0} → Option A → (A → Option B) → Option B
None >>= f = None
(Some x) >>= f = f x

-- a value that passes a test
abbrev pub if_passes : {A : Type 0} → Bool → A → Option A
if_passes true x = Some x
if_passes false x = None

-- ---- numbers and texts

abbrev pub byte_at : List ℕ → Option (ℕ × List ℕ)
byte_at [] = None
byte_at (b ∷ rest) = Some (b, rest)

unfoldable pub number_at : Width → List ℕ → Option (ℕ × List ℕ)
number_at w bytes = if nat_lt (length bytes) (byte_len w) then None else Some (from_be_bytes w (take (byte_len w) bytes), drop (byte_len w) bytes)

-- a number from 1 on
unfoldable pub positive_at : List ℕ → Option (ℕ × List ℕ)
positive_at bytes = do
  n ← number_at w64 bytes
  if_passes (nat_le 1 n.0) n

-- one byte of length, and that many bytes
unfoldable pub text_at : List ℕ → Option (List ℕ × List ℕ)
text_at bytes = do
  n ← byte_at bytes
  if nat_lt (length n.1) n.0 then None else Some (take n.0 n.1, drop n.0 n.1)

abbrev pub is_name : List ℕ → Bool
is_name text = nat_le 1 (length text) && (nat_le (length text) max_name && list_all is_name_byte text)

abbrev pub is_id : List ℕ → Bool
is_id text = nat_le 1 (length text) && (nat_le (length text) max_id && list_all is_id_byte text)

-- a namespace or a relation
unfoldable pub name_at : List ℕ → Option (List ℕ × List ℕ)
name_at bytes = do
  text ← text_at bytes
  if_passes (is_name text.0) text

-- the id of an object or of a user
unfoldable pub id_at : List ℕ → Option (List ℕ × List ℕ)
id_at bytes = do
  text ← text_at bytes
  if_passes (is_id text.0) text

-- ---- tuples

unfoldable pub object_at : List ℕ → Option (Object × List ℕ)
object_at bytes = do
  namespace ← name_at bytes
  id ← id_at namespace.1
  Some (record { namespace = namespace.0; id = id.0 }, id.1)

unfoldable pub userset_at : List ℕ → Option (Userset × List ℕ)
userset_at bytes = do
  object ← object_at bytes
  relation ← name_at object.1
  Some (record { object = object.0; relation = relation.0 }, relation.1)

-- the user after its kind
unfoldable pub user_of_kind_at : ℕ → List ℕ → Option (User × List ℕ)
user_of_kind_at zero bytes = None
user_of_kind_at (suc zero) bytes = do
  id ← id_at bytes
  Some (Id id.0, id.1)
user_of_kind_at (suc (suc zero)) bytes = do
  set ← userset_at bytes
  Some (Set set.0, set.1)
user_of_kind_at (suc (suc (suc k))) bytes = None

unfoldable pub user_at : List ℕ → Option (User × List ℕ)
user_at bytes = do
  kind ← byte_at bytes
  user_of_kind_at kind.0 kind.1

unfoldable pub tuple_at : List ℕ → Option (Tuple × List ℕ)
tuple_at bytes = do
  object ← object_at bytes
  relation ← name_at object.1
  user ← user_at relation.1
  Some (record { object = object.0; relation = relation.0; user = user.0 }, user.1)

-- ---- changes and conditions

unfoldable pub change_of_kind_at : ℕ → List ℕ → Option (Change × List ℕ)
change_of_kind_at zero bytes = None
change_of_kind_at (suc zero) bytes = do
  tuple ← tuple_at bytes
  Some (Touch tuple.0, tuple.1)
change_of_kind_at (suc (suc zero)) bytes = do
  tuple ← tuple_at bytes
  Some (Delete tuple.0, tuple.1)
change_of_kind_at (suc (suc (suc k))) bytes = None

unfoldable pub change_at : List ℕ → Option (Change × List ℕ)
change_at bytes = do
  kind ← byte_at bytes
  change_of_kind_at kind.0 kind.1

unfoldable pub not_after_at : List ℕ → Option (Want × List ℕ)
not_after_at bytes = do
  place ← number_at w64 bytes
  Some (NotAfter place.0, place.1)

unfoldable pub want_of_kind_at : ℕ → List ℕ → Option (Want × List ℕ)
want_of_kind_at zero bytes = None
want_of_kind_at (suc zero) bytes = not_after_at bytes
want_of_kind_at (suc (suc zero)) bytes = Some (Exists, bytes)
want_of_kind_at (suc (suc (suc zero))) bytes = Some (Absent, bytes)
want_of_kind_at (suc (suc (suc (suc k)))) bytes = None

-- in version 1 (if the flag says so) a place alone
unfoldable pub want_at : Bool → List ℕ → Option (Want × List ℕ)
want_at true bytes = not_after_at bytes
want_at false bytes = do
  kind ← byte_at bytes
  want_of_kind_at kind.0 kind.1

unfoldable pub condition_at : Bool → List ℕ → Option (Condition × List ℕ)
condition_at first bytes = do
  tuple ← tuple_at bytes
  want ← want_at first tuple.1
  Some (record { tuple = tuple.0; want = want.0 }, want.1)

-- this many, one after another
unfoldable pub list_at : {A : Type 0} → (List ℕ → Option (A × List ℕ)) → ℕ → List ℕ → Option (List A × List ℕ)
list_at item_at zero bytes = Some ([], bytes)
list_at item_at (suc n) bytes = do
  item ← item_at bytes
  others ← list_at item_at n item.1
  Some (item.0 ∷ others.0, others.1)

-- how many there are, at most this many, and those
abbrev pub few_at : {A : Type 0} → (List ℕ → Option (ℕ × List ℕ)) → (List ℕ → Option (A × List ℕ)) → ℕ → List ℕ → Option (List A × List ℕ)
few_at count_at item_at most bytes = do
  count ← count_at bytes
  if nat_le count.0 most then list_at item_at count.0 count.1 else None

-- no tuple twice
abbrev pub are_distinct : List Tuple → Bool
are_distinct [] = true
are_distinct (t ∷ ts) = not (has_tuple t ts) && are_distinct ts

unfoldable pub changes_at : List ℕ → Option (List Change × List ℕ)
changes_at bytes = do
  changes ← few_at byte_at change_at max_changes bytes
  if_passes (are_distinct (changed changes.0)) changes

unfoldable pub conditions_at : Bool → List ℕ → Option (List Condition × List ℕ)
conditions_at first bytes = do
  conditions ← few_at byte_at (condition_at first) max_conditions bytes
  if_passes (are_distinct (conditioned conditions.0)) conditions

-- ---- writes and what is learned of them

unfoldable pub write_id_at : List ℕ → Option (WriteId × List ℕ)
write_id_at bytes = do
  epoch ← positive_at bytes
  number ← positive_at epoch.1
  Some (record { epoch = epoch.0; number = number.0 }, number.1)

unfoldable pub entry_at : Bool → List ℕ → Option (Entry × List ℕ)
entry_at first bytes = do
  id ← write_id_at bytes
  changes ← changes_at id.1
  conditions ← conditions_at first changes.1
  Some (record { id = id.0; changes = changes.0; conditions = conditions.0 }, conditions.1)

unfoldable pub placed_id_at : List ℕ → Option (PlacedId × List ℕ)
placed_id_at bytes = do
  id ← write_id_at bytes
  place ← number_at w64 id.1
  Some (record { id = id.0; place = place.0 }, place.1)

-- places of placed ids rise strictly, and end at most at this one
abbrev pub are_rising_to : ℕ → List PlacedId → Bool
are_rising_to to [] = true
are_rising_to to (p ∷ []) = nat_le p.place to
are_rising_to to (p ∷ q ∷ placed_ids) = nat_lt p.place q.place && are_rising_to to (q ∷ placed_ids)

unfoldable pub placed_ids_at : List ℕ → Option (List PlacedId × List ℕ)
placed_ids_at bytes = few_at (number_at w16) placed_id_at max_placed_ids bytes

-- ---- records

unfoldable pub prepare_at : Bool → List ℕ → Option (Record × List ℕ)
prepare_at first bytes = do
  entry ← entry_at first bytes
  if_passes (nat_le 1 (length entry.0.changes + length entry.0.conditions)) (Prepare entry.0, entry.1)

unfoldable pub learned_at : List ℕ → Option (Record × List ℕ)
learned_at bytes = do
  to ← number_at w64 bytes
  placed_ids ← placed_ids_at to.1
  if_passes (are_rising_to to.0 placed_ids.0) (Learned to.0 placed_ids.0, placed_ids.1)

unfoldable pub dropped_at : List ℕ → Option (Record × List ℕ)
dropped_at bytes = do
  id ← write_id_at bytes
  Some (Dropped id.0, id.1)

unfoldable pub epoch_at : List ℕ → Option (Record × List ℕ)
epoch_at bytes = do
  epoch ← number_at w64 bytes
  store ← number_at w64 epoch.1
  shards ← byte_at store.1
  node ← byte_at shards.1
  if_passes (nat_le 1 shards.0 && nat_le shards.0 max_shards) (Epoch epoch.0 store.0 shards.0 node.0, node.1)

unfoldable pub decision_at : Bool → List ℕ → Option (Record × List ℕ)
decision_at first bytes = do
  place ← number_at w64 bytes
  entry ← entry_at first place.1
  if_passes (nat_le 1 (length entry.0.changes)) (Decision place.0 entry.0, entry.1)

unfoldable pub horizon_at : List ℕ → Option (Record × List ℕ)
horizon_at bytes = do
  place ← number_at w64 bytes
  Some (Horizon place.0, place.1)

unfoldable pub mark_of_kind_at : ℕ → List ℕ → Option (Mark × List ℕ)
mark_of_kind_at zero bytes = do
  generation ← number_at w64 bytes
  Some (Begins generation.0, generation.1)
mark_of_kind_at (suc zero) bytes = do
  place ← number_at w64 bytes
  change ← change_at place.1
  Some (Row place.0 change.0, change.1)
mark_of_kind_at (suc (suc zero)) bytes = do
  generation ← number_at w64 bytes
  Some (Ends generation.0, generation.1)
mark_of_kind_at (suc (suc (suc k))) bytes = None

unfoldable pub mark_at : List ℕ → Option (Mark × List ℕ)
mark_at bytes = do
  kind ← byte_at bytes
  mark_of_kind_at kind.0 kind.1

unfoldable pub checkpoint_at : List ℕ → Option (Record × List ℕ)
checkpoint_at bytes = do
  mark ← mark_at bytes
  Some (Checkpoint mark.0, mark.1)

-- the record after its kind
unfoldable pub record_of_kind_at : Bool → ℕ → List ℕ → Option (Record × List ℕ)
record_of_kind_at first zero bytes = None
record_of_kind_at first (suc zero) bytes = prepare_at first bytes
record_of_kind_at first (suc (suc zero)) bytes = learned_at bytes
record_of_kind_at first (suc (suc (suc zero))) bytes = dropped_at bytes
record_of_kind_at first (suc (suc (suc (suc zero)))) bytes = epoch_at bytes
record_of_kind_at first (suc (suc (suc (suc (suc zero))))) bytes = decision_at first bytes
record_of_kind_at first (suc (suc (suc (suc (suc (suc zero)))))) bytes = horizon_at bytes
record_of_kind_at first (suc (suc (suc (suc (suc (suc (suc zero))))))) bytes = checkpoint_at bytes
record_of_kind_at first (suc (suc (suc (suc (suc (suc (suc (suc k)))))))) bytes = None

unfoldable pub record_at : Bool → List ℕ → Option (Record × List ℕ)
record_at first bytes = do
  kind ← byte_at bytes
  record_of_kind_at first kind.0 kind.1

-- ---- batches

-- whether it is the first version, if it is one
unfoldable pub version_of : ℕ → Option Bool
version_of zero = None
version_of (suc zero) = Some true
version_of (suc (suc zero)) = Some false
version_of (suc (suc (suc k))) = None

-- number of records, those, and nothing after them
unfoldable pub records_at : Bool → List ℕ → Option (List Record)
records_at first bytes = do
  count ← number_at w16 bytes
  records ← list_at (record_at first) count.0 count.1
  if_passes (nat_le 1 count.0 && (length records.1 == 0)) records.0

-- the records that the bytes spell, none if they spell none
unfoldable pub batch : List ℕ → Option (List Record)
batch bytes = do
  version ← byte_at bytes
  first ← version_of version.0
  records_at first version.1
