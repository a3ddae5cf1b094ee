use Rattle.std.proofs.lemmas.Result.{err_from_is_err_and}
use Rattle.serde_json.specs.View.{view}
use Rattle.json_lines.specs.Shapes.{condition_json}
use Rattle.json_lines.proofs.Values.{misshapen_list}
use Rattle.json_lines.proofs.lists.conditions_of.Goals as goal

pub returns-in_err-condition_of : goal.returns-in_err-condition_of
returns-in_err-condition_of c =
    let p = err_from_is_err_and c.from_residual-in_err-condition_of.result c.from_residual-in_err-condition_of.ensures.1 in
    rw (p.1, p.2) (misshapen_list condition_json (view c.args.value.now) c.in-Some.items.now c.loop-item.item-index c.item-item.result _ c.in-Some.ensures c.loop-item-test.true c.item-item.is c.in_err-condition_of.ensures)
