use Rattle.std.proofs.Common.{sym, ◌∙◌}
use Rattle.tuples.proofs.Once.{tuple_text_once}
use Rattle.tuples.proofs.laws.a_text_is_of_one_tuple.Goals as goal

pub returns : goal.returns
returns c = λ text t u at au. tuple_text_once t u at.0 au.0 (sym at.1 ∙ au.1)
