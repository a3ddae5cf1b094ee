use Rattle.turns.proofs.QuietTurns.{away_nodes_have_cause}
use Rattle.turns.proofs.quiet_laws.away_nodes_have_cause.Goals as goal

pub returns : goal.returns
returns g c = λ store shards. away_nodes_have_cause store shards g.W.Leavings.left g.W.Leavings.left_after
