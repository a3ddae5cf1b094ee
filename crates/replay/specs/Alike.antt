-- States of a shard that read the same.
use Rattle.std.specs.Prelude.{◌≡◌}
use Rattle.records.specs.Replays.{ShardState}
use Rattle.versions.specs.Alike.{AreAlike}

-- they differ at most in the order of versions of different tuples
pub record IsAlike (a b : ShardState) : Type 0 where
  pub in_doubt : a.in_doubt ≡ b.in_doubt
  pub learned : a.learned ≡ b.learned
  pub horizon : a.horizon ≡ b.horizon
  pub epoch : a.epoch ≡ b.epoch
  pub rows : AreAlike a.rows b.rows
