-- What the records of a shard mean beside the log of the whole store.
use Rattle.std.specs.Prelude.{◌≡◌, ◌≤◌, ◌<◌, ◌&&◌, ◌==◌, ℕ, Bool, nat_lt, List, length, Some, None, slice_get}
use Rattle.tuples.specs.declared.entry.Entry.{Entry}
use Rattle.tuples.specs.declared.tuple.Tuple.{Tuple}
use Rattle.tuples.specs.Log.{is_at}
use Rattle.tuples.specs.Parts.{expected, shard_of}
use Rattle.tuples.specs.Versions.{of_shard, versions}
use Rattle.records.specs.Replays.{ShardState, find_in_doubt}
use Rattle.versions.specs.Alike.{AreAlike}

-- A write of the log (its place less one is j) above the learned place is in doubt with exactly its part, and not in doubt if it has
-- none; no write of the log at or below the learned place is in doubt.
pub record InDoubtAbove (shards s : ℕ) (log : List Entry) (state : ShardState) : Type 0 where
  pub above : (j : ℕ) (w : Entry) → slice_get log j ≡ Some w → state.learned ≤ j → find_in_doubt w.id state.in_doubt ≡ expected shards s w
  pub below : (j : ℕ) (w : Entry) → slice_get log j ≡ Some w → j < state.learned → find_in_doubt w.id state.in_doubt ≡ None

-- The records of shard s stand for its part of the log, seen with the coordinator's horizon and h.
pub record ShardMeans (shards s : ℕ) (log : List Entry) (coordinator_horizon h : ℕ) (state : ShardState) : Type 0 where
  pub learned : state.learned ≤ length log
  pub horizon : state.horizon ≤ h
  pub rows : AreAlike state.rows (of_shard shards s (versions log state.learned state.horizon))
  pub settled : coordinator_horizon ≤ state.learned
  pub in_doubt : InDoubtAbove shards s log state

-- a tuple that was there at a place, of one shard
abbrev pub there_of : ℕ → ℕ → List Entry → ℕ → Tuple → Bool
there_of shards s log place t = is_at log place t && (shard_of shards t.object == s)

-- and of the shards below a number
abbrev pub there_below : ℕ → ℕ → List Entry → ℕ → Tuple → Bool
there_below shards below log s t = is_at log s t && nat_lt (shard_of shards t.object) below
