-- If there is no first, none waits.
use Rattle.std.proofs.Common.{◌∙◌, ap, sym, option_copied}
use Rattle.answer_flow.proofs.Waiting.{none_first}
use Rattle.answer_flow.proofs.checking.bring_up.Goals as goal

pub returns-in_default-clause-more : goal.returns-in_default-clause-more
returns-in_default-clause-more c = λ waits. absurd (waits (none_first c.args.walk.waiting (sym c.first.ensures ∙ ap option_copied c.in_default.is)))
