-- The limits of a store, and the greatest numbers in it.
use Rattle.std.specs.Prelude.{◌≤◌, ℕ}

-- bytes of a namespace or a relation
abbrev pub max_name : ℕ
max_name = 64

-- bytes of the id of an object or a user
abbrev pub max_id : ℕ
max_id = 128

-- changes of one write
abbrev pub max_changes : ℕ
max_changes = 64

-- conditions of one write
abbrev pub max_conditions : ℕ
max_conditions = 16

-- shards of a store
abbrev pub max_shards : ℕ
max_shards = 64

-- tuplesets of a read, and namespaces of a watch
abbrev pub max_asked : ℕ
max_asked = 16

-- places whose changes a watch asks for
abbrev pub max_watched : ℕ
max_watched = 256

-- usersets that one check walks
abbrev pub max_walked : ℕ
max_walked = 4096

-- bytes of a line
abbrev pub max_line : ℕ
max_line = 262144

-- flows that run at a time in one store
abbrev pub max_flows : ℕ
max_flows = 1024

-- writes that are begun and not decided in one store
abbrev pub max_open : ℕ
max_open = 1024

-- decisions that a coordinator tells at once
abbrev pub max_batch : ℕ
max_batch = 256

-- the greatest place, epoch, number of a write and generation
abbrev pub max_number : ℕ
max_number = 9223372036854775807

-- the coordinator's number among the nodes, whose other numbers are those of the shards
abbrev pub coordinator_node : ℕ
coordinator_node = 255

-- a store has so many shards
pub record IsShardCount (shards : ℕ) : Type 0 where
  pub some : 1 ≤ shards
  pub few : shards ≤ max_shards
