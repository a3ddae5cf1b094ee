-- If there is no first, none waits.
use Rattle.std.proofs.Common.{◌∙◌, ap, sym, option_copied}
use Rattle.answer_flow.proofs.Waiting.{none_first}
use Rattle.answer_flow.proofs.checking.question.Goals as goal

pub returns-in_default : goal.returns-in_default
returns-in_default c = none_first c.args.walk.now.waiting (sym c.first.ensures ∙ ap option_copied c.in_default.is)
