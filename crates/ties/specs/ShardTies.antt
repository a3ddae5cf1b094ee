-- What ties a shard under its lock to the list of writes that its pass has seen.
use Rattle.std.specs.Prelude.{◌≡◌, ◌≤◌, ℕ, false, List, length, take}
use Rattle.tuples.specs.declared.entry.Entry.{Entry}
use Rattle.tuples.specs.Versions.{of_shard, versions}
use Rattle.records.specs.declared.record.Record.{Record}
use Rattle.records.specs.Replays.{ShardState, shard_state}
use Rattle.device.specs.Device.{State, left}
use Rattle.journal.specs.Records.{Finds}
use Rattle.versions.specs.Alike.{AreAlike}
use Rattle.shard.specs.Shards.{IsUp, ShardView, memory}
use Rattle.calls.specs.Views.{NodeView, coordinator, shard, refused}
use Rattle.laws.specs.Worlds.{AreWhole, shard_node}

-- A shard's rows are its part of the first writes of the list, which are whole, under a horizon at or below the one that was seen. Of the list after
-- them nothing is known here.
pub record AreRowsOf (shards s : ℕ) (seen : List Entry) (low : ℕ) (st : ShardState) : Type 0 where
  pub learned : st.learned ≤ length seen
  pub horizon : st.horizon ≤ low
  pub within : st.horizon ≤ st.learned
  pub whole : AreWhole (take st.learned seen)
  pub rows : AreAlike st.rows (of_shard shards s (versions seen st.learned st.horizon))

-- Given what a device holds and whether it is honest
module _ {D : Type 0} (state : D → State) (honest : D → Type 0) where
  -- a shard that is up: its rows, with what is staged and without
  pub record IsShardTiedUp (store shards s : ℕ) (v : ShardView D) (seen : List Entry) (low : ℕ) : Type 0 where
    pub up : IsUp state honest v
    pub now : AreRowsOf shards s seen low (memory v)
    pub kept : AreRowsOf shards s seen low (shard_state v.durable)
    pub me : v.me ≡ shard_node store shards s

  -- whatever a stop leaves of two honest devices
  pub record RowsAnywhere (shards s : ℕ) (a b : D) (seen : List Entry) (low : ℕ) : Type 0 where
    pub honest_a : honest a
    pub honest_b : honest b
    pub each : (rs : List Record) → Finds (left (state a)) (left (state b)) rs → AreRowsOf shards s seen low (shard_state rs)

  -- a shard that was opened: what is known if it is up, and of its devices in any case
  pub record IsOpenedShardTied (store shards s : ℕ) (v : ShardView D) (seen : List Entry) (low : ℕ) : Type 0 where
    pub up : v.is_down ≡ false → IsShardTiedUp store shards s v seen low
    pub anywhere : RowsAnywhere shards s v.a v.b seen low
    pub me : v.me ≡ shard_node store shards s

  -- the node of shard s, opened or not
  abbrev pub IsShardTied : ℕ → ℕ → ℕ → NodeView D → List Entry → ℕ → Type 0
  IsShardTied store shards s (shard v) seen low = IsOpenedShardTied store shards s v seen low
  IsShardTied store shards s (refused e a b) seen low = RowsAnywhere shards s a b seen low
  IsShardTied store shards s (coordinator v) seen low = ⊥
