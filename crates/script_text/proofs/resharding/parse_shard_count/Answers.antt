use Rattle.std.proofs.Common.{sym, ◌∙◌, arith}
use Rattle.std.proofs.lemmas.Fmt.{decimal_injective}
use Rattle.script_text.proofs.resharding.parse_shard_count.Goals as goal

pub returns-then-count-from : goal.returns-then-count-from
returns-then-count-from c n within e =
    let same = decimal_injective n c.in_ok-count.count (omega (arith, within.1)) (omega arith) (sym e ∙ c.in_ok-count.ensures.1) in
    absurd (omega (arith, within.1))
