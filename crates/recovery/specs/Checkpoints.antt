-- What a checkpoint of a coordinator stands for.
use Rattle.std.specs.Prelude.{◌≡◌, ◌≤◌, ◌-◌, ℕ, List, drop}
use Rattle.tuples.specs.Limits.{max_number}
use Rattle.records.specs.declared.record.Record.{Record}
use Rattle.records.specs.Checkpoints.{coordinator_checkpoint}
use Rattle.records.specs.Coordinators.{CoordinatorState, IsCoordinatorImage, coordinator_state, end_of}
use Rattle.records.specs.Identity.{Identity}

-- without the decisions at or below its horizon
abbrev pub above_horizon : CoordinatorState → CoordinatorState
above_horizon s = record s { base = s.horizon; log = drop (s.horizon - s.base) s.log }

-- records of the same coordinator, which stand for what the others stand for, without the decisions at or below the horizon
pub record StandsForCoordinator (me : Identity) (rs cs : List Record) : Type 0 where
  pub image : IsCoordinatorImage me cs
  pub state : coordinator_state cs ≡ above_horizon (coordinator_state rs)
  pub above : (coordinator_state rs).base ≤ (coordinator_state rs).horizon
  pub within : (coordinator_state rs).horizon ≤ end_of (coordinator_state rs)

-- A checkpoint of what the records of a coordinator stand for stands for them.
abbrev pub CoordinatorCheckpointsStand : Type 0
CoordinatorCheckpointsStand = (me : Identity) (rs : List Record) (generation : ℕ) → IsCoordinatorImage me rs → 1 ≤ (coordinator_state rs).epoch → 1 ≤ generation → generation ≤ max_number
    → StandsForCoordinator me rs (coordinator_checkpoint me generation (coordinator_state rs))
