-- The log of writes, what is there at a place of it, and which logs are legal.
use Rattle.std.specs.Prelude.{◌≡◌, ◌+◌, ℕ, Bool, true, false, not, ◌&&◌, ◌==◌, nat_le, List, [], ◌∷◌, length, take, slice_get, Some, if◌then◌else◌, All}
use Rattle.std.specs.List.{flat_map}
use Rattle.tuples.specs.declared.tuple.Tuple.{Tuple}
use Rattle.tuples.specs.declared.change.Change.{Change}
use Rattle.tuples.specs.declared.change.Change.TheVariants.{Touch, Delete}
use Rattle.tuples.specs.declared.change.Condition.{Condition}
use Rattle.tuples.specs.declared.change.Want.{Want}
use Rattle.tuples.specs.declared.change.Want.TheVariants.{NotAfter, Exists, Absent}
use Rattle.tuples.specs.declared.entry.Entry.{Entry}
use Rattle.tuples.specs.declared.entry.WriteId.{WriteId}
use Rattle.tuples.specs.Order.{tuple_eq}
use Rattle.tuples.specs.Changes.{changed, has_tuple}

abbrev pub same_id : WriteId → WriteId → Bool
same_id a b = (a.epoch == b.epoch) && (a.number == b.number)

-- whether the tuple is there after the changes, if it was there before as the flag says
abbrev pub there_after : Tuple → Bool → List Change → Bool
there_after t there [] = there
there_after t there (Touch u ∷ changes) = there_after t (if tuple_eq t u then true else there) changes
there_after t there (Delete u ∷ changes) = there_after t (if tuple_eq t u then false else there) changes

-- the snapshot: the tuple is there after the first s writes, its last change among them a touch
unfoldable pub is_at : List Entry → ℕ → Tuple → Bool
is_at log s t = there_after t false (flat_map (λ (w : Entry). w.changes) (take s log))

-- the greatest place whose write changes the tuple, 0 if none: found so far, and the place of the next write
abbrev pub last_from : ℕ → ℕ → Tuple → List Entry → ℕ
last_from found place t [] = found
last_from found place t (w ∷ log) = last_from (if has_tuple t (changed w.changes) then place else found) (place + 1) t log

unfoldable pub last_place : List Entry → Tuple → ℕ
last_place log t = last_from 0 1 t log

-- whether what is wanted of the tuple holds, if its last change is at this place and it is there or not
abbrev pub meets_want : Want → ℕ → Bool → Bool
meets_want (NotAfter place) last there = nat_le last place
meets_want Exists last there = there
meets_want Absent last there = not there

-- the condition holds after the log
abbrev pub Holds : List Entry → Condition → Type 0
Holds log c = meets_want c.want (last_place log c.tuple) (is_at log (length log) c.tuple) ≡ true

-- the conditions hold after the log
unfoldable pub HoldAfter : List Entry → List Condition → Type 0
HoldAfter log conditions = All (Holds log) conditions

-- the conditions of each write hold after the writes before it
unfoldable pub IsLegal : List Entry → Type 0
IsLegal log = (i : ℕ) (w : Entry) → slice_get log i ≡ Some w → HoldAfter (take i log) w.conditions

-- no id stands twice
abbrev pub AreNew : List Entry → Type 0
AreNew log = (i j : ℕ) (v w : Entry) → slice_get log i ≡ Some v → slice_get log j ≡ Some w → v.id ≡ w.id → i ≡ j
