use Rattle.std.proofs.Common.{codes}
use Rattle.script_text.proofs.Lists.{same_text}
use Rattle.script_text.proofs.Writing.{behind_if}
use Rattle.script_text.proofs.shapes.words_behind_if.Goals as goal

pub returns-then-not-is_empty : goal.returns-then-not-is_empty
returns-then-not-is_empty c =
    behind_if c.args.words.now c.in-Some.conditions.now c.in-Some.name.now c.is_empty.result c.in-Some.ensures.cases.0 (same_text c.in-Some.name.now.now c.as_slice.result.now (codes "if") c.eq.result c.eq.ensures c.as_slice.ensures c.if-eq.true) c.is_empty.ensures c.if-not-is_empty.true
