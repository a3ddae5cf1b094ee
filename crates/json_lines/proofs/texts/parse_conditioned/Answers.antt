use Rattle.std.proofs.Common.{arith}
use Rattle.std.proofs.lemmas.Result.{err_from_is_err_and}
use Rattle.tuples.specs.Texts.{IsTuple, tuple_text}
use Rattle.json_lines.specs.Causes.{conditioned_text}
use Rattle.json_lines.proofs.Spelled.{texts_more, texts_refused}
use Rattle.json_lines.proofs.texts.parse_conditioned.Goals as goal

pub returns-in_err-parse_tuple : goal.returns-in_err-parse_tuple
returns-in_err-parse_tuple c =
    let p = err_from_is_err_and c.from_residual-in_err-parse_tuple.result c.from_residual-in_err-parse_tuple.ensures.1 in
    rw (p.1, p.2) (texts_refused conditioned_text tuple_text IsTuple c.args.conditions.now c.loop-condition.condition-index _ _ c.loop-condition-test.true c.in_err-parse_tuple.ensures)

pub loop-condition-preserved : goal.loop-condition-preserved
loop-condition-preserved c =
    (texts_more conditioned_text tuple_text IsTuple c.args.conditions.now c.loop-condition.tuples.items c.push_reserved.new.self.items c.loop-condition.condition-index _ c.in_ok-parse_tuple.field-0 c.loop-condition-test.true c.loop-condition.invariant.0 c.in_ok-parse_tuple.ensures.0 c.in_ok-parse_tuple.ensures.1 c.push_reserved.ensures.items, omega arith, omega arith)
