use Rattle.stores.proofs.ReadAnswer.{shard_rows_show_snapshots}
use Rattle.stores.proofs.reading_laws.shard_rows_show_snapshots.Goals as goal

pub returns : goal.returns
returns c = shard_rows_show_snapshots
