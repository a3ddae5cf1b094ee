use Rattle.laws.proofs.ReadRows.{one_shard_is_enough}
use Rattle.stores.proofs.reading_laws.one_shard_is_enough.Goals as goal

pub returns : goal.returns
returns c = one_shard_is_enough
