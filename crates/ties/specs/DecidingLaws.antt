-- Laws of a coordinator that is up and tied: its calls leave it tied.
use Rattle.std.specs.Prelude.{◌≡◌, ◌≤◌, ◌<◌, ◌+◌, ℕ, List, [], ◌∷◌, ◌++◌, length, Some, slice_get}
use Rattle.tuples.specs.declared.change.Change.{Change}
use Rattle.tuples.specs.declared.change.Condition.{Condition}
use Rattle.tuples.specs.declared.entry.Entry.{Entry}
use Rattle.tuples.specs.declared.entry.WriteId.{WriteId}
use Rattle.records.specs.Coordinators.{end_of}
use Rattle.device.specs.Device.{State}
use Rattle.decisions.specs.Coordinators.{AbortsAt, BeginsAt, CoordinatorView, DecidesAt, IsKeptBy, RaisesAt, kept_of}
use Rattle.decisions.specs.Standing.{DecidedValue}
use Rattle.decisions.specs.Values.{IntentValue}
use Rattle.ties.specs.Ties.{Attempt, IsTiedUp}

abbrev pub attempt : DecidedValue → Entry → Attempt
attempt d w = record { epoch = d.epoch; place = d.place; write = w }

-- the write stands at the place, and its id nowhere else
pub record StandsAt (place : ℕ) (w : Entry) (log : List Entry) : Type 0 where
  pub index : ℕ
  pub place_is : place ≡ index + 1
  pub there : slice_get log index ≡ Some w
  pub once : (i : ℕ) (u : Entry) → slice_get log i ≡ Some u → u.id ≡ w.id → i ≡ index

module _ {D : Type 0} (state : D → State) (honest : D → Type 0) where
  -- a write that is begun knows how long the list is
  abbrev pub BeginningsStayTied : Type 0
  BeginningsStayTied = (old new : CoordinatorView D) (changes : List Change) (conditions : List Condition) (i : IntentValue) (seen : List Entry) (low : ℕ) (tried : List Attempt)
      → IsTiedUp state honest old seen low tried → BeginsAt old changes conditions i new
      → IsTiedUp state honest new seen low tried × (i.kept ≡ length seen)

  -- a write that is aborted changes nothing of what is listed
  abbrev pub AbortsStayTied : Type 0
  AbortsStayTied = (old new : CoordinatorView D) (id : WriteId) (seen : List Entry) (low : ℕ) (tried : List Attempt)
      → IsTiedUp state honest old seen low tried → AbortsAt old id new
      → IsTiedUp state honest new seen low tried

  -- a horizon that is raised up to a kept place waits for its flush
  abbrev pub RaisesStayTied : Type 0
  RaisesStayTied = (old new : CoordinatorView D) (place : ℕ) (seen : List Entry) (low : ℕ) (tried : List Attempt)
      → IsTiedUp state honest old seen low tried → RaisesAt old place new → place ≤ end_of (kept_of old)
      → IsTiedUp state honest new seen low tried

  -- A decision of an open write: the node stays tied, and the attempt stands after the others. Its place is above all that was seen.
  abbrev pub DecisionsStayTied : Type 0
  DecisionsStayTied = (old new : CoordinatorView D) (w : Entry) (d : DecidedValue) (seen : List Entry) (low : ℕ) (tried : List Attempt)
      → IsTiedUp state honest old seen low tried → DecidesAt old w d new
      → IsTiedUp state honest new seen low (tried ++ attempt d w ∷ []) × (length seen < d.place)

  -- A decision that is kept is the write of its attempt, and stands in the list, its id once.
  abbrev pub KeptAttemptsStand : Type 0
  KeptAttemptsStand = (v : CoordinatorView D) (d : DecidedValue) (x : Attempt) (j : ℕ) (seen : List Entry) (low : ℕ) (tried : List Attempt)
      → IsTiedUp state honest v seen low tried → IsKeptBy v d → slice_get tried j ≡ Some x → x.epoch ≡ d.epoch → x.place ≡ d.place
      → StandsAt d.place x.write seen
