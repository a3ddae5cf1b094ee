use Rattle.std.proofs.lemmas.Result.{err_from_is_err_and}
use Rattle.serde_json.specs.View.{view}
use Rattle.json_lines.specs.Shapes.{change_json}
use Rattle.json_lines.proofs.Values.{misshapen_list}
use Rattle.json_lines.proofs.lists.changes_of.Goals as goal

pub returns-in_err-change_of : goal.returns-in_err-change_of
returns-in_err-change_of c =
    let p = err_from_is_err_and c.from_residual-in_err-change_of.result c.from_residual-in_err-change_of.ensures.1 in
    rw (p.1, p.2) (misshapen_list change_json (view c.args.value.now) c.in-Some.items.now c.loop-item.item-index c.item-item.result _ c.in-Some.ensures c.loop-item-test.true c.item-item.is c.in_err-change_of.ensures)
