use Rattle.turns.proofs.QuietTurns.{writes_spend}
use Rattle.turns.proofs.quiet_laws.writes_spend_what_they_hold.Goals as goal

pub returns : goal.returns
returns g c = λ store shards. writes_spend store shards g.W.Leavings.left g.W.Leavings.left_after
