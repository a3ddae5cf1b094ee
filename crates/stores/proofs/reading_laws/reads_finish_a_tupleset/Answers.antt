use Rattle.stores.proofs.ReadAnswer.{reads_finish}
use Rattle.stores.proofs.reading_laws.reads_finish_a_tupleset.Goals as goal

pub returns : goal.returns
returns g c = λ store shards. reads_finish store shards g.W.Leavings.left
