use Rattle.stores.proofs.PrepareTurn.{prepared_conditions_are_met}
use Rattle.stores.proofs.prepare_laws.prepared_conditions_are_met.Goals as goal

pub returns : goal.returns
returns g c = λ store shards. prepared_conditions_are_met store shards g.W.Leavings.left
