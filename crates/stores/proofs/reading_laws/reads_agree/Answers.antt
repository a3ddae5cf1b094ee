use Rattle.stores.proofs.ReadAnswer.{reads_answer}
use Rattle.stores.proofs.reading_laws.reads_agree.Goals as goal

pub returns : goal.returns
returns g c = λ store shards. reads_answer store shards g.W.Leavings.left
