use Rattle.std.proofs.Common.{sym, ◌∙◌, arith}
use Rattle.std.proofs.lemmas.Fmt.{decimal_injective}
use Rattle.script_text.proofs.node.parse_shard.Goals as goal

pub returns-then-shard-from : goal.returns-then-shard-from
returns-then-shard-from c n small e =
    let same = decimal_injective n c.in_ok-shard.shard (omega arith) (omega arith) (sym e ∙ c.in_ok-shard.ensures.1) in
    absurd (omega arith)
