-- Laws of what a coordinator that is up and tied tells.
use Rattle.std.specs.Prelude.{◌≡◌, ◌≤◌, ℕ, List, length}
use Rattle.tuples.specs.declared.entry.Entry.{Entry}
use Rattle.tuples.specs.declared.entry.WriteId.{WriteId}
use Rattle.device.specs.Device.{State}
use Rattle.decisions.specs.Coordinators.{BatchesAt, CoordinatorView, FindsAt, heads_of}
use Rattle.decisions.specs.Values.{BatchValue}
use Rattle.laws.specs.ShardLaws.{AreOfLog}
use Rattle.laws.specs.Worlds.{AreWhole}
use Rattle.ties.specs.DecidingLaws.{StandsAt}
use Rattle.ties.specs.Ties.{Attempt, IsTiedUp}

-- a batch of the list, of whole writes
pub record IsBatchOf (seen : List Entry) (b : BatchValue) : Type 0 where
  pub of_list : AreOfLog seen b.from b.writes
  pub whole : AreWhole b.writes

module _ {D : Type 0} (state : D → State) (honest : D → Type 0) where
  -- its heads are those of the list
  abbrev pub HeadsAreSeen : Type 0
  HeadsAreSeen = (v : CoordinatorView D) (seen : List Entry) (low : ℕ) (tried : List Attempt) → IsTiedUp state honest v seen low tried
      → ((heads_of v).kept ≡ length seen) × ((heads_of v).horizon ≡ low) × (low ≤ length seen)

  -- a batch is of the list
  abbrev pub BatchesAreSeen : Type 0
  BatchesAreSeen = (v : CoordinatorView D) (from to : ℕ) (b : BatchValue) (seen : List Entry) (low : ℕ) (tried : List Attempt) → IsTiedUp state honest v seen low tried
      → BatchesAt v from to b → IsBatchOf seen b × (b.from ≡ from)

  -- a write that is found stands in the list
  abbrev pub FoundWritesStand : Type 0
  FoundWritesStand = (v : CoordinatorView D) (id : WriteId) (place : ℕ) (seen : List Entry) (low : ℕ) (tried : List Attempt) → IsTiedUp state honest v seen low tried
      → FindsAt v id place → (w : Entry) × (w.id ≡ id) × StandsAt place w seen
