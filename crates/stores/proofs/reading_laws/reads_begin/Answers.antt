use Rattle.stores.proofs.ReadAnswer.{reads_begin}
use Rattle.stores.proofs.reading_laws.reads_begin.Goals as goal

pub returns : goal.returns
returns g c = λ store shards. reads_begin store shards g.W.Leavings.left
