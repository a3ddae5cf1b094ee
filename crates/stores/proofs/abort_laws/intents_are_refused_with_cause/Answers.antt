use Rattle.stores.proofs.AbortCauses.{refused_intents}
use Rattle.stores.proofs.abort_laws.intents_are_refused_with_cause.Goals as goal

pub returns : goal.returns
returns g c = λ store shards. refused_intents store shards g.W.Leavings.left
