use Rattle.turns.proofs.FailedFlushTurn.{failed_flushes_are_quiet}
use Rattle.turns.proofs.FlushTurn.{flushes_are_quiet}
use Rattle.turns.proofs.answer_laws.coordinator_flushes_are_quiet.Goals as goal

pub returns : goal.returns
returns g c = record {
  ok = λ store shards. flushes_are_quiet store shards g.W.Leavings.left g.W.Leavings.left_after;
  failed = λ store shards. failed_flushes_are_quiet store shards g.W.Leavings.left g.W.Leavings.left_after;
}
