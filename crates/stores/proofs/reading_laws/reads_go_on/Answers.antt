use Rattle.stores.proofs.ReadAnswer.{reads_go_on_all}
use Rattle.stores.proofs.reading_laws.reads_go_on.Goals as goal

pub returns : goal.returns
returns g c = λ store shards. reads_go_on_all store shards g.W.Leavings.left
