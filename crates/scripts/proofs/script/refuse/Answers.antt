use Rattle.std.proofs.Common.{◌<◌, ◌+◌, arith, length, vec_capacity, vec_len}
use Rattle.script_text.specs.PrintedTexts.{refusal_line}
use Rattle.scripts.proofs.Short.{refusal_short}
use Rattle.scripts.proofs.script.refuse.Goals as goal

pub unreachable-requires : goal.unreachable-requires
unreachable-requires c =
    let full : vec_capacity c.args.out.now < vec_len c.args.out.now + length (refusal_line c.args.refusal) = c.in-Err.ensures.memory in
    let short = refusal_short c.args.refusal in
    omega (arith, full, short, c.requires)
