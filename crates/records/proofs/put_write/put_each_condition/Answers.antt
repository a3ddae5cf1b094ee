use Rattle.std.proofs.Common.{false}
use Rattle.std.proofs.lemmas.Result.{err_from_is_err_and}
use Rattle.records.specs.Format.{condition_bytes}
use Rattle.records.proofs.Putting.{stop_in}
use Rattle.records.proofs.put_write.put_each_condition.Goals as goal

pub returns-in_err-put_condition : goal.returns-in_err-put_condition
returns-in_err-put_condition c =
    let p = err_from_is_err_and c.from_residual.result c.from_residual.ensures.1 in
    rw p.1 (stop_in (condition_bytes false) c.args.out.now c.loop-condition.out c.put_condition.new.out c.args.conditions.now c.loop-condition.condition-index c.condition-item.result c.loop-condition-test.true c.condition-item.is c.loop-condition.invariant c.in_err-put_condition.ensures)
