use Rattle.std.proofs.Common.{sym, subst, ◌∙◌}
use Rattle.std.specs.Str.{IsUtf8}
use Rattle.script_text.proofs.Counts.{decimal_is_text, count_read}
use Rattle.script_text.proofs.numbers.parse_decimal.Goals as goal

pub returns-in_default : goal.returns-in_default
returns-in_default c n small e = c.in_default.ensures.cases.0 (subst IsUtf8 (sym e) (decimal_is_text n small))

pub returns-in-Err : goal.returns-in-Err
returns-in-Err c n small e = count_read c.in-Ok.text.now n small (c.in-Ok.ensures.cases.0 ∙ e) c.in-Err.ensures.value.0
