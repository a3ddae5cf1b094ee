-- Each record is so short that a batch has room for it alone.
use Rattle.std.proofs.Common.{◌≡◌, ⊎_elim, ◌≤◌, ◌+◌, ◌*◌, ℕ, false, All, List, [], ◌∷◌, ◌++◌, length, refl, ap, arith, length-append}
use Rattle.std.proofs.lemmas.List.{append-nil}
use Rattle.std.proofs.lemmas.List.Elements.{All-head, All-tail}
use Rattle.std.specs.List.{flat_map}
use Rattle.std.specs.Int.{w16, w64, to_be_bytes}
use Rattle.tuples.specs.Changes.{IsPart, changed, conditioned, tuple_of}
use Rattle.tuples.specs.Texts.{IsObject, IsTuple, IsUser}
use Rattle.tuples.specs.declared.change.Change.{Change}
use Rattle.tuples.specs.declared.change.Change.TheVariants.{Touch, Delete}
use Rattle.tuples.specs.declared.change.Condition.{Condition}
use Rattle.tuples.specs.declared.change.Want.{Want}
use Rattle.tuples.specs.declared.change.Want.TheVariants.{NotAfter, Exists, Absent}
use Rattle.tuples.specs.declared.entry.Entry.{Entry}
use Rattle.tuples.specs.declared.entry.WriteId.{WriteId}
use Rattle.tuples.specs.declared.object.Object.{Object}
use Rattle.tuples.specs.declared.tuple.Tuple.{Tuple}
use Rattle.tuples.specs.declared.user.User.{User}
use Rattle.tuples.specs.declared.user.User.TheVariants.{Id, Set}
use Rattle.records.specs.declared.mark.Mark.TheVariants.{Begins, Row, Ends}
use Rattle.records.specs.declared.record.PlacedId.{PlacedId}
use Rattle.records.specs.declared.record.Record.{Record}
use Rattle.records.specs.declared.record.Record.TheVariants.{Prepare, Learned, Dropped, Epoch, Decision, Horizon, Checkpoint}
use Rattle.records.specs.Format.{IsRecord, change_bytes, condition_bytes, entry_bytes, id_bytes, object_bytes, placed_id_bytes, record_bytes, text_bytes, tuple_bytes, user_bytes, want_bytes}
use Rattle.journal.specs.Records.{HasNoRoom}
use Rattle.journal.proofs.Staged.{batch_size_is}

eight : (n : ℕ) → length (to_be_bytes w64 n) ≡ 8
eight n = refl

two : (n : ℕ) → length (to_be_bytes w16 n) ≡ 2
two n = refl

text_short : (bytes : List ℕ) → length (text_bytes bytes) ≡ length bytes + 1
text_short bytes = omega arith

of_two : (a b : List ℕ) (n m : ℕ) → length a ≤ n → length b ≤ m → length (a ++ b) ≤ n + m
of_two a b n m le more = omega (arith, length-append a b, le, more)

object_short : (o : Object) → IsObject o → length (object_bytes o) ≤ 194
object_short o is = of_two (text_bytes o.namespace) (text_bytes o.id) 65 129 (omega (arith, text_short o.namespace, is.namespace.few)) (omega (arith, text_short o.id, is.id.few))

user_short : (u : User) → IsUser u → length (user_bytes u) ≤ 260
user_short (Id i) is = omega (arith, text_short i, is.few)
user_short (Set s) is =
    let both = of_two (object_bytes s.object) (text_bytes s.relation) 194 65 (object_short s.object is.object) (omega (arith, text_short s.relation, is.relation.few)) in
    omega (arith, both)

tuple_short : (t : Tuple) → IsTuple t → length (tuple_bytes t) ≤ 519
tuple_short t is =
    of_two (object_bytes t.object ++ text_bytes t.relation) (user_bytes t.user) 259 260
    (of_two (object_bytes t.object) (text_bytes t.relation) 194 65 (object_short t.object is.object) (omega (arith, text_short t.relation, is.relation.few)))
    (user_short t.user is.user)

change_short : (c : Change) → IsTuple (tuple_of c) → length (change_bytes c) ≤ 520
change_short (Touch t) is = omega (arith, tuple_short t is)
change_short (Delete t) is = omega (arith, tuple_short t is)

want_short : (w : Want) → length (want_bytes false w) ≤ 9
want_short (NotAfter place) = omega (arith, eight place)
want_short Exists = omega arith
want_short Absent = omega arith

condition_short : (c : Condition) → IsTuple c.tuple → length (condition_bytes false c) ≤ 528
condition_short c is = omega (arith, length-append (tuple_bytes c.tuple) (want_bytes false c.want), tuple_short c.tuple is, want_short c.want)

changes_short : (cs : List Change) → All IsTuple (changed cs) → length (flat_map change_bytes cs) ≤ 520 * length cs
changes_short [] are = omega arith
changes_short (c ∷ cs) are =
    omega (arith, length-append (change_bytes c) (flat_map change_bytes cs), change_short c (All-head IsTuple (tuple_of c) (changed cs) are), changes_short cs (All-tail IsTuple (tuple_of c) (changed cs) are))

conditions_short : (cs : List Condition) → All IsTuple (conditioned cs) → length (flat_map (condition_bytes false) cs) ≤ 528 * length cs
conditions_short [] are = omega arith
conditions_short (c ∷ cs) are =
    omega (arith, length-append (condition_bytes false c) (flat_map (condition_bytes false) cs), condition_short c (All-head IsTuple c.tuple (conditioned cs) are), conditions_short cs (All-tail IsTuple c.tuple (conditioned cs) are))

id_short : (id : WriteId) → length (id_bytes id) ≡ 16
id_short id = refl

placed_short : (ps : List PlacedId) → length (flat_map placed_id_bytes ps) ≡ 24 * length ps
placed_short [] = refl
placed_short (p ∷ ps) = omega (arith, length-append (placed_id_bytes p) (flat_map placed_id_bytes ps), placed_short ps)

entry_short : (w : Entry) → IsPart w.changes w.conditions → length (entry_bytes false w) ≤ 42000
entry_short w part =
    of_two (id_bytes w.id ++ length w.changes ∷ flat_map change_bytes w.changes) (length w.conditions ∷ flat_map (condition_bytes false) w.conditions) 33400 8600
    (of_two (id_bytes w.id) (length w.changes ∷ flat_map change_bytes w.changes) 16 33384 (omega (arith, id_short w.id)) (omega (arith, changes_short w.changes part.changes_spelled, part.few_changes)))
    (omega (arith, conditions_short w.conditions part.conditions_spelled, part.few_conditions))

record_short : (r : Record) → IsRecord r → length (record_bytes false r) ≤ 50000
unfolding record_bytes
record_short (Prepare w) is = omega (arith, entry_short w is.part)
record_short (Learned to placed_ids) is =
    of_two ((2 ∷ to_be_bytes w64 to) ++ to_be_bytes w16 (length placed_ids)) (flat_map placed_id_bytes placed_ids) 11 49989
    (omega (arith, eight to, two (length placed_ids))) (omega (arith, placed_short placed_ids, is.few))
record_short (Dropped id) is = omega (arith, id_short id)
record_short (Epoch epoch store shards node) is = omega (arith, eight epoch, eight store)
record_short (Decision place w) is = of_two (5 ∷ to_be_bytes w64 place) (entry_bytes false w) 8000 42000 (omega (arith, eight place)) (entry_short w is.write.part)
record_short (Horizon place) is = omega (arith, eight place)
record_short (Checkpoint (Begins generation)) is = omega (arith, eight generation)
record_short (Checkpoint (Row place change)) is = omega (arith, of_two (1 ∷ to_be_bytes w64 place) (change_bytes change) 9 520 (omega (arith, eight place)) (change_short change is.tuple))
record_short (Checkpoint (Ends generation)) is = omega (arith, eight generation)

-- an empty batch has room for any record
pub fits_alone : (r : Record) → IsRecord r → HasNoRoom [] r → ⊥
fits_alone r is full = ⊎_elim
    (λ many. omega (arith, many))
    (λ long. omega (arith, long, batch_size_is (r ∷ []), ap length (append-nil (record_bytes false r)), record_short r is))
    full

-- a batch that has no room for a record is not empty
pub some_there : (rs : List Record) (r : Record) → IsRecord r → HasNoRoom rs r → 1 ≤ length rs
some_there [] r is full = absurd (fits_alone r is full)
some_there (x ∷ rs) r is full = omega arith
