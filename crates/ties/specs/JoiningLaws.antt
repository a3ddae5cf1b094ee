-- Laws of the flush, the checkpoint and the opening of a coordinator: what joins the list, and what is known if a device failed.
use Rattle.std.specs.Prelude.{◌≡◌, ◌≤◌, true, ℕ, List, [], ◌++◌, take, drop}
use Rattle.refusal.specs.declared.refusal.Refusal.{Refusal}
use Rattle.tuples.specs.declared.entry.Entry.{Entry}
use Rattle.device.specs.Device.{State, left}
use Rattle.journal.specs.Records.{HasOldOrNew, LeavesBoth, LeavesEach}
use Rattle.decisions.specs.Checkpoints.{HasOldNewOrPoint, next_checkpoint}
use Rattle.decisions.specs.Coordinators.{CoordinatorView, FlushesAll, IsRunning, KeepsOpen, kept_of}
use Rattle.calls.specs.Opening.{CoordinatorComesUp, CoordinatorStaysOut}
use Rattle.laws.specs.Worlds.{coordinator_node}
use Rattle.ties.specs.Ties.{Anywhere, Attempt, IsOpenedTied, IsTiedUp, behind}

-- the beginning of what was staged is durable, and nothing else is changed but the devices
pub record LandsFirst {D E : Type 0} (count : ℕ) (old : CoordinatorView E) (new : CoordinatorView D) : Type 0 where
  pub durable : new.durable ≡ old.durable ++ take count old.staged
  pub staged : new.staged ≡ drop count old.staged
  pub open_ids : new.open_ids ≡ old.open_ids
  pub given : new.given ≡ old.given

-- a checkpoint of what was known, with what was staged, is all that is durable
pub record ChecksPoint {D : Type 0} (old new : CoordinatorView D) : Type 0 where
  pub durable : new.durable ≡ next_checkpoint old
  pub staged : new.staged ≡ []

-- the list with what is kept after it, and the horizon that is kept
pub record Joins {D : Type 0} (state : D → State) (honest : D → Type 0) (new : CoordinatorView D) (seen : List Entry) (low : ℕ) (tried : List Attempt) : Type 0 where
  pub tied : IsTiedUp state honest new (seen ++ behind seen (kept_of new)) (kept_of new).horizon tried
  pub raised : low ≤ (kept_of new).horizon

module _ {D E : Type 0} (state : D → State) (honest : D → Type 0) (state_of : E → State) (honest_of : E → Type 0) where
  -- A landing, of a node over other devices: the list is longer by what is kept now, and all else stays tied.
  abbrev pub LandingsStayTied : Type 0
  LandingsStayTied = (old : CoordinatorView E) (new : CoordinatorView D) (count : ℕ) (seen : List Entry) (low : ℕ) (tried : List Attempt)
      → IsTiedUp state_of honest_of old seen low tried → LandsFirst count old new → IsRunning state honest new
      → Joins state honest new seen low tried

module _ {D : Type 0} (state : D → State) (honest : D → Type 0) where
  -- a flush: the list is longer by all that was staged
  abbrev pub FlushesStayTied : Type 0
  FlushesStayTied = (old new : CoordinatorView D) (seen : List Entry) (low : ℕ) (tried : List Attempt)
      → IsTiedUp state honest old seen low tried → FlushesAll old new → KeepsOpen old new → IsRunning state honest new
      → Joins state honest new seen low tried

  -- A checkpoint: the list is longer by all that was staged, as after a flush. What lies below the horizon stays in it, though no record has it.
  abbrev pub CheckpointsStayTied : Type 0
  CheckpointsStayTied = (old new : CoordinatorView D) (seen : List Entry) (low : ℕ) (tried : List Attempt)
      → IsTiedUp state honest old seen low tried → ChecksPoint old new → KeepsOpen old new → IsRunning state honest new
      → Joins state honest new seen low tried

  -- a coordinator that is up has devices of which every stop leaves the list
  abbrev pub TiedUpIsTied : Type 0
  TiedUpIsTied = (store shards : ℕ) (v : CoordinatorView D) (seen : List Entry) (low : ℕ) (tried : List Attempt)
      → IsTiedUp state honest v seen low tried → v.me ≡ coordinator_node store shards → IsOpenedTied state honest store shards v seen low tried

module _ {D : Type 0} (state : D → State) (honest : D → Type 0) (moment : D → ℕ) (left_since : D → ℕ → List ℕ → Type 0) (store shards : ℕ) where
  -- a flush in which a device failed: the list as it was, of whatever it left
  abbrev pub FailedFlushesStayTied : Type 0
  FailedFlushesStayTied = (old new : CoordinatorView D) (seen : List Entry) (low : ℕ) (tried : List Attempt)
      → IsTiedUp state honest old seen low tried → old.me ≡ coordinator_node store shards → KeepsOpen old new → honest new.a → honest new.b → new.is_down ≡ true
      → LeavesBoth moment left_since old.a old.b new.a new.b (HasOldOrNew old.durable old.staged)
      → IsOpenedTied state honest store shards new seen low tried

  -- a checkpoint in which a device failed leaves it too: by the old records, with what was staged or without, or by its own
  abbrev pub FailedCheckpointsStayTied : Type 0
  FailedCheckpointsStayTied = (old new : CoordinatorView D) (seen : List Entry) (low : ℕ) (tried : List Attempt)
      → IsTiedUp state honest old seen low tried → old.me ≡ coordinator_node store shards → KeepsOpen old new → honest new.a → honest new.b → new.is_down ≡ true
      → LeavesEach moment left_since old.a old.b new.a new.b (HasOldNewOrPoint old)
      → IsOpenedTied state honest store shards new seen low tried

  -- An opening over devices that read what a stop may leave of them cuts nothing that was seen: the list is longer by what was found after it.
  abbrev pub OpeningsStayTied : Type 0
  OpeningsStayTied = (a b : D) (v : CoordinatorView D) (seen : List Entry) (low : ℕ) (tried : List Attempt)
      → Anywhere state honest a b seen low tried → left (state a) (state a).seen → left (state b) (state b).seen
      → CoordinatorComesUp state honest moment left_since a b (coordinator_node store shards) v
      → Joins state honest v seen low tried

  -- an opening that is refused leaves the list as it was
  abbrev pub RefusedOpeningsStayTied : Type 0
  RefusedOpeningsStayTied = (a b x y : D) (e : Refusal) (seen : List Entry) (low : ℕ) (tried : List Attempt)
      → Anywhere state honest a b seen low tried → left (state a) (state a).seen → left (state b) (state b).seen
      → CoordinatorStaysOut state honest moment left_since a b (coordinator_node store shards) e x y
      → Anywhere state honest x y seen low tried
