use Rattle.std.proofs.Common.{sym, ◌∙◌, arith}
use Rattle.std.proofs.lemmas.Fmt.{decimal_injective}
use Rattle.script_text.proofs.shapes.parse_limit.Goals as goal

pub returns-then-limit-gt-MAX_WATCHED : goal.returns-then-limit-gt-MAX_WATCHED
returns-then-limit-gt-MAX_WATCHED c n within e =
    let same = decimal_injective n c.in_ok-limit.limit (omega (arith, within.1)) (omega arith) (sym e ∙ c.in_ok-limit.ensures.1) in
    absurd (omega (arith, within.1))
