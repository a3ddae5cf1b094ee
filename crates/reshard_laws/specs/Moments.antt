-- What a stop leaves of the new coordinator, at every moment of a resharding: the statement of the law.
use Rattle.std.specs.Prelude.{◌≡◌, ◌⊎◌, ℕ, List, [], ◌∷◌, All, None, Some}
use Rattle.calls.specs.Views.{coordinator}
use Rattle.calls.specs.declared.carrying.Reach.{Reach}
use Rattle.cluster.specs.Worlds.{WorldView, node_at}
use Rattle.decisions.specs.Checkpoints.{carried_checkpoint}
use Rattle.decisions.specs.Coordinators.{CoordinatorView, IsRunning}
use Rattle.device.specs.Device.{State}
use Rattle.journal.specs.Records.{LeavesEach, found}
use Rattle.names.specs.declared.node_name.NodeName.TheVariants.{Coordinator}
use Rattle.records.specs.declared.record.Record.{Record}
use Rattle.reshard.specs.Written.{AreWrittenInOrder, IsEmpty, IsLeftOver}
use Rattle.tuples.specs.declared.version.Version.{Version}

-- the contents have no record, or what every opening finds to be damage, or all of these
abbrev pub AllOrNothing : List Record → List ℕ → List ℕ → Type 0
AllOrNothing rs x y = (found x y ≡ Some []) ⊎ ((found x y ≡ None) ⊎ (found x y ≡ Some rs))

module _ {D : Type 0} (state : D → State) (honest : D → Type 0) (moment : D → ℕ) (left_since : D → ℕ → List ℕ → Type 0) where
  -- the first two of the devices that were handed in became the first two that come back, and a stop within leaves all or nothing
  abbrev pub LeavesAllOrNothing : List Record → List D → List D → Type 0
  LeavesAllOrNothing rs given made = (a b c d : D) (rest more : List D) → given ≡ a ∷ b ∷ rest → made ≡ c ∷ d ∷ more → LeavesEach moment left_since a b c d (AllOrNothing rs)

  -- Whether the devices are written or come back as they are: over honest ones without a record, at every moment.
  pub record StopsLeaveAllOrNothing (old : WorldView D) (v : CoordinatorView D) (shards : ℕ) (given made : List D) : Type 0 where
    pub written : (reach : Reach) (rows : List Version) → AreWrittenInOrder state honest moment left_since old shards reach rows given made → LeavesAllOrNothing (carried_checkpoint shards v) given made
    pub left : IsLeftOver state honest moment left_since old shards given made → LeavesAllOrNothing (carried_checkpoint shards v) given made

  abbrev pub NewCoordinatorsAreWhole : Type 0
  NewCoordinatorsAreWhole = (old : WorldView D) (v : CoordinatorView D) (shards : ℕ) (given made : List D) → node_at old.nodes Coordinator ≡ Some (coordinator v) → IsRunning state honest v
      → All (IsEmpty state honest moment left_since) given → StopsLeaveAllOrNothing old v shards given made
