use Rattle.std.proofs.lemmas.Result.{err_from_is_err_and}
use Rattle.script_text.specs.Shapes.{shape_view}
use Rattle.script_text.proofs.Causing.{start_cause, start_shapeless}
use Rattle.script_text.proofs.command.parse_start.Goals as goal

pub returns-in_default-shape_of-clause-err : goal.returns-in_default-shape_of-clause-err
returns-in_default-shape_of-clause-err c shards =
    start_shapeless c.args.store shards c.args.running.now c.args.words.now c.in-Some.words.now c.in-Some.name.now c.in-Some.ensures.cases.0 c.in_default-shape_of.ensures

pub returns-in_err-request_of-clause-err : goal.returns-in_err-request_of-clause-err
returns-in_err-request_of-clause-err c shards =
    let p = err_from_is_err_and c.from_residual-in_err-request_of.result c.from_residual-in_err-request_of.ensures.1 in
    rw (p.1, p.2) (start_cause c.args.store shards c.args.running.now c.args.words.now c.in-Some.words.now c.in-Some.name.now (shape_view c.in-Some-shape_of.shape) _ c.in-Some.ensures.cases.0
    (c.is_free.ensures.0 c.if-not-is_free.false) c.in-Some-shape_of.ensures c.in_err-request_of.ensures.err)
