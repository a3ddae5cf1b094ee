use Rattle.std.proofs.lemmas.Result.{err_from_is_err_and}
use Rattle.records.specs.Format.{change_bytes}
use Rattle.records.proofs.Putting.{stop_in}
use Rattle.records.proofs.put_write.put_each_change.Goals as goal

pub returns-in_err-put_change : goal.returns-in_err-put_change
returns-in_err-put_change c =
    let p = err_from_is_err_and c.from_residual.result c.from_residual.ensures.1 in
    rw p.1 (stop_in change_bytes c.args.out.now c.loop-change.out c.put_change.new.out c.args.changes.now c.loop-change.change-index c.change-item.result c.loop-change-test.true c.change-item.is c.loop-change.invariant c.in_err-put_change.ensures)
