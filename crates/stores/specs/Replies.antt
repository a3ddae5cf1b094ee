-- Which answers of a flow agree with the machine.
use Rattle.std.specs.Prelude.{◌≡◌, ◌≤◌, ◌+◌, ◌-◌, ◌↔◌, min, ℕ, Bool, false, IsTrue, List, length, Some, All, slice_get}
use Rattle.tuples.specs.declared.change.Change.{Change}
use Rattle.tuples.specs.declared.change.Condition.{Condition}
use Rattle.tuples.specs.declared.entry.Entry.{Entry}
use Rattle.tuples.specs.declared.entry.WriteId.{WriteId}
use Rattle.tuples.specs.declared.object.Userset.{Userset}
use Rattle.tuples.specs.declared.tuple.Tuple.{Tuple}
use Rattle.tuples.specs.declared.tupleset.Tupleset.{Tupleset}
use Rattle.tuples.specs.declared.user.User.{User}
use Rattle.tuples.specs.Checking.{IsMember}
use Rattle.tuples.specs.Log.{is_at}
use Rattle.tuples.specs.Reads.{IsSelection}
use Rattle.tuples.specs.Watching.{Placed, events}
use Rattle.records.specs.Replays.{ShardState}
use Rattle.laws.specs.ShardLaws.{IsUnlistedAbove}
use Rattle.laws.specs.Machines.{Machine}
use Rattle.laws.specs.Nodes.{NodeName, coordinator, shard, ShardKnows}
use Rattle.stores.specs.Flows.{id_of, Freshness, latest, at_least, exact, Asked, to_write, to_read, to_check, to_watch, to_flush, to_learn, to_resolve, to_raise, to_collect, Resolved, committed, aborted, undecided}
use Rattle.stores.specs.Moments.{Moment, Running, WasKept, SawFirst}

-- What a flow answers: the place of its write; the place and the rows of each tupleset; the place and whether the user is a member; the
-- place of the heartbeat and the events; what became of each write in doubt; or that it is done.
pub data Answer : Type 0 where
  wrote : ℕ → Answer
  selected : ℕ → List (List Tuple) → Answer
  checked : ℕ → Bool → Answer
  listed : ℕ → List Placed → Answer
  resolved : List Resolved → Answer
  done : Answer

-- at a write's place the log has a write of this id with these changes and conditions
pub record IsListed (log : List Entry) (place : ℕ) (id : WriteId) (changes : List Change) (conditions : List Condition) : Type 0 where
  pub counted : 1 ≤ place
  pub there : slice_get log (place - 1) ≡ Some (record { id = id; changes = changes; conditions = conditions })

-- a write's answer: it was decided once, at this place, which is kept and has it under the id that the flow holds
pub record IsWriteAnswer (r : Running) (m : Machine) (changes : List Change) (conditions : List Condition) (i : ℕ) : Type 0 where
  pub epoch : ℕ
  pub decided : r.decided ≡ Some (record { place = i; epoch = epoch })
  pub id : WriteId
  pub held : id_of r.holds ≡ Some id
  pub kept : i ≤ m.kept
  pub listed_there : IsListed m.log i id changes conditions

-- s is a place as it was asked for
abbrev pub IsAsWanted : Freshness → Running → ℕ → Type 0
IsAsWanted latest r s = WasKept r s
IsAsWanted (at_least z) r s = WasKept r s × (z ≤ s)
IsAsWanted (exact z) r s = (s ≡ z) × ((k : ℕ) × WasKept r k × (s ≤ k))

-- the place of an answer: as it was asked for, kept, and not below the horizon of the flow's first call
pub record IsPlaceOf (fresh : Freshness) (r : Running) (m : Machine) (s : ℕ) : Type 0 where
  pub wanted : IsAsWanted fresh r s
  pub kept : s ≤ m.kept
  pub above : (first : Machine) → SawFirst r first → first.horizon ≤ s

-- a read's answer: what each tupleset selects of the tuples at the place
pub record IsReadAnswer (fresh : Freshness) (sets : List Tupleset) (r : Running) (m : Machine) (s : ℕ) (rows : List (List Tuple)) : Type 0 where
  pub place : IsPlaceOf fresh r m s
  pub all : length rows ≡ length sets
  pub each : (i : ℕ) (q : Tupleset) (row : List Tuple) → slice_get sets i ≡ Some q → slice_get rows i ≡ Some row → IsSelection (is_at m.log s) q row

-- a check's answer: whether the user is a member over the tuples at the place
pub record IsCheckAnswer (fresh : Freshness) (x : Userset) (u : User) (r : Running) (m : Machine) (s : ℕ) (answer : Bool) : Type 0 where
  pub place : IsPlaceOf fresh r m s
  pub member : IsTrue answer ↔ IsMember (is_at m.log s) u x

-- a watch's answer: all events from its cursor to the heartbeat, which lies the limit after it or at the kept place
pub record IsWatchAnswer (c limit : ℕ) (names : List (List ℕ)) (r : Running) (m : Machine) (e : ℕ) (events_listed : List Placed) : Type 0 where
  pub kept : ℕ
  pub was : WasKept r kept
  pub cursor : c ≤ kept
  pub heartbeat : e ≡ min (c + limit) kept
  pub still_kept : e ≤ m.kept
  pub all : events_listed ≡ events m.log c e names
  pub above : (first : Machine) → SawFirst r first → first.horizon ≤ c

-- what a resolution says of one write: a commit names its place; an aborted one stands at no place above the horizon
abbrev pub IsResolved : Machine → Resolved → Type 0
IsResolved m (committed id p) = (w : Entry) × (1 ≤ p) × (p ≤ m.kept) × (slice_get m.log (p - 1) ≡ Some w) × (w.id ≡ id)
IsResolved m (aborted id) = IsUnlistedAbove m.horizon id m.log
IsResolved m (undecided id) = Unit {0}

-- a flush of the coordinator keeps the whole log
abbrev pub IsFlushed : NodeName → Machine → Type 0
IsFlushed coordinator m = m.kept ≡ length m.log
IsFlushed (shard s) m = Unit {0}

-- a shard's learning is done: it has learned up to a place that was the kept one after one of the flow's turns
pub record IsLearnAnswer (s : ℕ) (r : Running) (now : Moment) : Type 0 where
  pub kept : ℕ
  pub was : WasKept r kept
  pub memory : ShardState
  pub knows : ShardKnows now.nodes s memory
  pub learned : kept ≤ memory.learned

-- The answer to what was asked agrees with the machine. A pair that never comes agrees with none.
abbrev pub Agrees : Running → Moment → Asked → Answer → Type 0
Agrees r now (to_write changes conditions) (wrote i) = IsWriteAnswer r now.machine changes conditions i
Agrees r now (to_read fresh sets) (selected s rows) = IsReadAnswer fresh sets r now.machine s rows
Agrees r now (to_check fresh x u) (checked s b) = IsCheckAnswer fresh x u r now.machine s b
Agrees r now (to_watch c limit names) (listed e placed) = IsWatchAnswer c limit names r now.machine e placed
Agrees r now (to_flush n) done = IsFlushed n now.machine
Agrees r now (to_learn s) done = IsLearnAnswer s r now
Agrees r now (to_resolve s) (resolved found) = All (IsResolved now.machine) found
Agrees r now (to_raise x) done = r.is_reopened ≡ false → x ≤ now.machine.horizon
Agrees r now (to_collect s) done = Unit {0}
Agrees r now asked answer = ⊥
