use Rattle.stores.proofs.ReadAnswer.{all_replies_select}
use Rattle.stores.proofs.reading_laws.replies_select.Goals as goal

pub returns : goal.returns
returns g c = λ store shards. all_replies_select store shards g.W.Leavings.left
