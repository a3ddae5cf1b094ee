-- The records of a shard as they are read, from the first on.
use Rattle.std.specs.Prelude.{◌≡◌, Option, None}
use Rattle.records.specs.Inside.{inside_step}
use Rattle.records.specs.Replays.{ShardState, empty_shard, shard_step}
use Rattle.records.specs.declared.mark.Inside.{Inside}
use Rattle.records.specs.declared.record.Record.{Record}
use Rattle.replay.specs.Alike.{IsAlike}

-- what those so far stand for, and the unfinished checkpoint among them
pub record ReadSoFar : Type 0 where
  pub inside : Option Inside
  pub state : ShardState

abbrev pub nothing_read : ReadSoFar
nothing_read = record { inside = None; state = empty_shard }

-- one more was read
pub record TakesRecord (old : ReadSoFar) (r : Record) (new : ReadSoFar) : Type 0 where
  pub inside : new.inside ≡ inside_step old.inside r
  pub state : IsAlike new.state (shard_step old.state r)
