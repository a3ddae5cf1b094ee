-- What the records of a coordinator mean beside the log of the whole store.
use Rattle.std.specs.Prelude.{◌≡◌, ◌≤◌, ℕ, List, length, drop, Some, slice_get}
use Rattle.tuples.specs.declared.entry.Entry.{Entry}
use Rattle.records.specs.Coordinators.{CoordinatorState}

-- no id of the log has an epoch above this one
abbrev pub AreGiven : ℕ → List Entry → Type 0
AreGiven epoch log = (j : ℕ) (w : Entry) → slice_get log j ≡ Some w → w.id.epoch ≤ epoch

-- The decisions are those of the log after a place at or below the coordinator's horizon, which is at least h and a place of the log;
-- and each id of the log was given in an epoch of the coordinator's.
pub record CoordinatorMeans (log : List Entry) (h : ℕ) (state : CoordinatorState) : Type 0 where
  pub decisions : state.log ≡ drop state.base log
  pub base : state.base ≤ state.horizon
  pub above : h ≤ state.horizon
  pub within : state.horizon ≤ length log
  pub given : AreGiven state.epoch log
