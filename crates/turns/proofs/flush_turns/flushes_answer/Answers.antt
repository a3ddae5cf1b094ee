use Rattle.turns.proofs.FlushTurn.{flushes_answer}
use Rattle.turns.proofs.flush_turns.flushes_answer.Goals as goal

pub returns : goal.returns
returns g c = λ store shards. flushes_answer store shards g.W.Leavings.left g.W.Leavings.left_after
