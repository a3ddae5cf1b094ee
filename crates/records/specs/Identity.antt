-- Which node of which store.
use Rattle.std.specs.Prelude.{◌≡◌, ◌⊎◌, ◌≤◌, ◌<◌, ℕ}
use Rattle.tuples.specs.Limits.{coordinator_node}
pub use Rattle.tuples.specs.Limits.{max_shards}

-- the number of the coordinator among the nodes of its store
abbrev pub coordinator_number : ℕ
coordinator_number = coordinator_node

-- which node of which store: one of its shards, counted from 0, or its coordinator
pub record Identity : Type 0 where
  pub store : ℕ
  pub shards : ℕ
  pub node : ℕ

pub record IsIdentity (me : Identity) : Type 0 where
  pub some : 1 ≤ me.shards
  pub few : me.shards ≤ max_shards
  pub node : (me.node < me.shards) ⊎ (me.node ≡ coordinator_number)
