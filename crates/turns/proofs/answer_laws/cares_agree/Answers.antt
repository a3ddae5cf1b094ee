use Rattle.turns.proofs.AnswerTurns.{collects_end, learns_end, raises_end, resolves_end}
use Rattle.turns.proofs.answer_laws.cares_agree.Goals as goal

pub returns : goal.returns
returns g c = record {
  learning = λ store shards. learns_end store shards g.W.Leavings.left g.W.Leavings.left_after;
  resolving = λ store shards. resolves_end store shards g.W.Leavings.left g.W.Leavings.left_after;
  collecting = λ store shards. collects_end store shards g.W.Leavings.left g.W.Leavings.left_after;
  raising = λ store shards. raises_end store shards g.W.Leavings.left g.W.Leavings.left_after;
}
