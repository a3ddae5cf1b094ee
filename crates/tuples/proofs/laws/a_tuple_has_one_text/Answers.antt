use Rattle.std.proofs.Common.{sym, ◌∙◌}
use Rattle.tuples.proofs.laws.a_tuple_has_one_text.Goals as goal

pub returns : goal.returns
returns c = λ t text other a b. a.1 ∙ sym b.1
