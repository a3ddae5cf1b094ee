-- The records of a coordinator as they are read, from the first on.
use Rattle.std.specs.Prelude.{◌≡◌, ◌⊎◌, ◌≤◌, ℕ, [], Option, Some, None}
use Rattle.records.specs.Coordinators.{CoordinatorState, coordinator_step, empty_coordinator}
use Rattle.records.specs.Inside.{inside_step}
use Rattle.records.specs.declared.mark.Inside.{Inside}
use Rattle.records.specs.declared.mark.Stage.TheVariants.{Begun, Bounded}
use Rattle.records.specs.declared.record.Record.{Record}

-- what those so far stand for, and the unfinished checkpoint among them
pub record DecidedSoFar : Type 0 where
  pub inside : Option Inside
  pub state : CoordinatorState

abbrev pub nothing_decided : DecidedSoFar
nothing_decided = record { inside = None; state = empty_coordinator }

-- one more was read
pub record TakesDecided (old : DecidedSoFar) (r : Record) (new : DecidedSoFar) : Type 0 where
  pub inside : new.inside ≡ inside_step old.inside r
  pub state : new.state ≡ coordinator_step old.state r

-- the base that the records stand for: within a checkpoint it is not named yet
abbrev pub base_read : Option Inside → ℕ → ℕ
base_read None base = base
base_read (Some i) base = 0

-- within a checkpoint decisions are kept after its horizon, and there are none before that is known
pub record AreBehindHorizon (i : Inside) (s : CoordinatorState) : Type 0 where
  pub opened : (i.stage ≡ Begun) ⊎ (1 ≤ s.epoch)
  pub base : s.base ≡ s.horizon
  pub none : (i.stage ≡ Bounded) ⊎ (s.log ≡ [])

-- what is kept of the records that were read
abbrev pub IsReading : Option Inside → CoordinatorState → Type 0
IsReading None s = s.epoch ≡ 0 → s ≡ empty_coordinator
IsReading (Some i) s = AreBehindHorizon i s
