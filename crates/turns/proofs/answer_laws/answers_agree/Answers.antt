use Rattle.turns.proofs.AnswerTurns.{checks_end_no, checks_end_yes, reads_end, refused_writes_end, watches_end}
use Rattle.turns.proofs.answer_laws.answers_agree.Goals as goal

pub returns : goal.returns
returns g c = record {
  reads = λ store shards. reads_end store shards g.W.Leavings.left g.W.Leavings.left_after;
  checks_yes = λ store shards. checks_end_yes store shards g.W.Leavings.left g.W.Leavings.left_after;
  checks_no = λ store shards. checks_end_no store shards g.W.Leavings.left g.W.Leavings.left_after;
  watches = λ store shards. watches_end store shards g.W.Leavings.left g.W.Leavings.left_after;
  refused = λ store shards. refused_writes_end store shards g.W.Leavings.left g.W.Leavings.left_after;
}
