use Rattle.turns.proofs.FailedFlushTurn.{failed_flushes_answer}
use Rattle.turns.proofs.flush_turns.failed_flushes_answer.Goals as goal

pub returns : goal.returns
returns g c = λ store shards. failed_flushes_answer store shards g.W.Leavings.left g.W.Leavings.left_after
