use Rattle.std.proofs.lemmas.Result.{err_from_is_err_and}
use Rattle.serde_json.specs.View.{view}
use Rattle.json_lines.specs.Shapes.{fields_of}
use Rattle.json_lines.proofs.Causing.{fields_refused}
use Rattle.json_lines.proofs.parse.parse_request.Goals as goal

pub returns-in_err-shape-clause-err : goal.returns-in_err-shape-clause-err
returns-in_err-shape-clause-err c =
    let p = err_from_is_err_and c.from_residual-in_err-shape.result c.from_residual-in_err-shape.ensures.1 in
    rw (p.1, p.2) (fields_refused c.args.store c.args.line.now _ (view c.in_ok-value.value) (fields_of c.in_ok-members.members.items) c.in_ok-value.ensures.ok.1 c.in_ok-members.ensures (rw c.deref.ensures.value at c.in_err-shape.ensures))
