-- What the shards have settled, for a raise to a place.
use Rattle.std.specs.Prelude.{ℕ, List}
use Rattle.decisions.specs.Values.{HeadsValue, SettledValue}

-- those below one have, and it is that shard's turn
pub record GatheringValue : Type 0 where
  pub shards : ℕ
  pub place : ℕ
  pub heads : HeadsValue
  pub next : ℕ
  pub settled : List SettledValue

-- all have
pub record GatheredValue : Type 0 where
  pub shards : ℕ
  pub place : ℕ
  pub heads : HeadsValue
  pub settled : List SettledValue
