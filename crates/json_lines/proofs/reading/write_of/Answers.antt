use Rattle.std.proofs.Common.{refl, inl, arith}
use Rattle.std.proofs.lemmas.Result.{err_from_is_err_and}
use Rattle.std.proofs.lemmas.Bool.{both_ways}
use Rattle.serde_json.specs.View.{view}
use Rattle.json_lines.specs.Shapes.{fields_of}
use Rattle.json_lines.proofs.Inverting.{none_is, write_empty, write_misshapen, write_unended}
use Rattle.json_lines.proofs.reading.write_of.Goals as goal

pub returns-in_err-changes : goal.returns-in_err-changes
returns-in_err-changes c =
    let p = err_from_is_err_and c.from_residual.result c.from_residual.ensures.1 in
    rw (p.1, p.2) (write_misshapen (view c.args.changes.now) (fields_of c.args.rest.now) _ c.in_err-changes.ensures)

pub returns-then-is_empty : goal.returns-then-is_empty
returns-then-is_empty c = inl (refl, write_empty (view c.args.changes.now) (fields_of c.args.rest.now) c.in_ok-changes.changes.items c.in_ok-changes.ensures (let none = none_is c.in_ok-changes.changes.len _ c.is_empty.ensures c.if-is_empty.true in omega (arith, none)))

pub returns-then-not-is_op : goal.returns-then-not-is_op
returns-then-not-is_op c = inl (refl, write_unended (view c.args.changes.now) (fields_of c.args.rest.now) (λ e. both_ways _ c.if-not-is_op.true (c.is_op.ensures.1 e)) c.in_default.ensures)
