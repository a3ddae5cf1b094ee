-- What the values that pass between the nodes stand for, in whatever records a stop may leave of a node.
use Rattle.std.specs.Prelude.{◌≡◌, ◌≤◌, ℕ, List, Some}
use Rattle.tuples.specs.declared.entry.Entry.{Entry}
use Rattle.tuples.specs.declared.entry.WriteId.{WriteId}
use Rattle.records.specs.declared.record.Record.{Record}
use Rattle.records.specs.Coordinators.{coordinator_state, IsNotAbove}
use Rattle.records.specs.Replays.{shard_state, find_in_doubt}
pub use Rattle.decisions.specs.Values.{HeadsValue, SettledValue}

-- a decision that was staged: its place, and the epoch of the coordinator that staged it
pub record DecidedValue : Type 0 where
  pub place : ℕ
  pub epoch : ℕ

-- A vote of a shard: it has the write in doubt with exactly this part.
abbrev pub IsPromised : (List Record → Type 0) → WriteId → Entry → Type 0
IsPromised stops id part = (found : List Record) → stops found → find_in_doubt id (shard_state found).in_doubt ≡ Some part

-- What a shard has settled: it has learned up to the place.
abbrev pub IsSettled : (List Record → Type 0) → ℕ → Type 0
IsSettled stops place = (found : List Record) → stops found → place ≤ (shard_state found).learned

-- a node was opened at least this often
abbrev pub IsShardEpoch : (List Record → Type 0) → ℕ → Type 0
IsShardEpoch stops epoch = (found : List Record) → stops found → epoch ≤ (shard_state found).epoch

-- an id that the coordinator gave out: it never gives it again, since each opening raises its epoch
abbrev pub IsGivenOut : (List Record → Type 0) → WriteId → Type 0
IsGivenOut stops id = (found : List Record) → stops found → id.epoch ≤ (coordinator_state found).epoch

-- A verdict of abort: the id was given out, and no decision above the horizon has it.
pub record IsAborted (stops : List Record → Type 0) (id : WriteId) : Type 0 where
  pub given : IsGivenOut stops id
  pub none : (found : List Record) → stops found → IsNotAbove id (coordinator_state found)
