use Rattle.turns.proofs.QuietTurns.{refused_flows_end}
use Rattle.turns.proofs.quiet_laws.refused_flows_end.Goals as goal

pub returns : goal.returns
returns g c = λ store shards. refused_flows_end store shards g.W.Leavings.left g.W.Leavings.left_after
