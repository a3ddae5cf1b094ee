use Rattle.std.proofs.Common.{arith}
use Rattle.std.proofs.lemmas.Result.{err_from_is_err_and}
use Rattle.tuples.specs.Texts.{IsTuple, tuple_text}
use Rattle.json_lines.specs.Causes.{changed_text}
use Rattle.json_lines.proofs.Spelled.{changes_more, texts_refused}
use Rattle.json_lines.proofs.texts.parse_changes.Goals as goal

pub returns-in_err-parse_change : goal.returns-in_err-parse_change
returns-in_err-parse_change c =
    let p = err_from_is_err_and c.from_residual-in_err-parse_change.result c.from_residual-in_err-parse_change.ensures.1 in
    rw (p.1, p.2) (texts_refused changed_text tuple_text IsTuple c.args.shapes.now c.loop-shape.shape-index _ _ c.loop-shape-test.true c.in_err-parse_change.ensures)

pub loop-shape-preserved : goal.loop-shape-preserved
loop-shape-preserved c =
    let more = changes_more c.args.shapes.now c.loop-shape.changes.items c.push_reserved.new.self.items c.loop-shape.shape-index _ c.in_ok-parse_change.field-0 c.loop-shape-test.true c.loop-shape.invariant.0 c.loop-shape.invariant.1 c.in_ok-parse_change.ensures c.push_reserved.ensures.items in
    (more.0, more.1, omega arith, omega arith)
