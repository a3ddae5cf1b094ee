use Rattle.stores.proofs.ReadAnswer.{reads_ask_all_of}
use Rattle.stores.proofs.reading_laws.reads_ask_all.Goals as goal

pub returns : goal.returns
returns g c = λ store shards. reads_ask_all_of store shards g.W.Leavings.left
