use Rattle.std.proofs.Common.{sym, ◌∙◌}
use Rattle.tuples.proofs.Sets.{tupleset_text_once}
use Rattle.tuples.proofs.laws.a_text_is_of_one_tupleset.Goals as goal

pub returns : goal.returns
returns c = λ text q r aq ar. tupleset_text_once q r aq.0 ar.0 (sym aq.1 ∙ ar.1)
