use Rattle.turns.proofs.QuietTurns.{quiet_calls_end}
use Rattle.turns.proofs.quiet_laws.quiet_calls_end_cancelled_flows.Goals as goal

pub returns : goal.returns
returns g c = λ store shards. quiet_calls_end store shards g.W.Leavings.left g.W.Leavings.left_after
