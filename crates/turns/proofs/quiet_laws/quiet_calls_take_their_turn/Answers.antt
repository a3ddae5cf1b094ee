use Rattle.turns.proofs.QuietTurns.{quiet_calls_turn}
use Rattle.turns.proofs.quiet_laws.quiet_calls_take_their_turn.Goals as goal

pub returns : goal.returns
returns g c = λ store shards. quiet_calls_turn store shards g.W.Leavings.left g.W.Leavings.left_after
