use Rattle.turns.proofs.QuietTurns.{refused_writes_go_out}
use Rattle.turns.proofs.quiet_laws.refused_writes_go_out.Goals as goal

pub returns : goal.returns
returns g c = λ store shards. refused_writes_go_out store shards g.W.Leavings.left g.W.Leavings.left_after
