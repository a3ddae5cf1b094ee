use Rattle.stores.proofs.AbortCauses.{refused_tickets}
use Rattle.stores.proofs.abort_laws.tickets_are_refused_with_cause.Goals as goal

pub returns : goal.returns
returns g c = λ store shards. refused_tickets store shards g.W.Leavings.left
