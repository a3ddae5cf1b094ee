use Rattle.std.proofs.lemmas.Result.{err_from_is_err_and}
use Rattle.records.specs.Reading.{list_at, change_at}
use Rattle.records.proofs.Loop.{goes_on, ends, is_done}
use Rattle.records.proofs.read_write.so_many_changes_of.Goals as goal

pub returns-in_err-change : goal.returns-in_err-change
returns-in_err-change c =
    let p = err_from_is_err_and c.from_residual-in_err-change.result c.from_residual-in_err-change.ensures.1 in
    rw (p.1, p.2) (ends c.in_err-change.field-0.0 change_at c.loop.changes.items c.args.count c.loop.counter c.loop.rest.now (list_at change_at c.args.count c.args.bytes.now) c.loop-test.true c.in_err-change.ensures c.loop.invariant)

pub loop-preserved : goal.loop-preserved
loop-preserved c =
    rw c.in_ok-push.ensures.items (goes_on change_at c.loop.changes.items c.args.count c.loop.counter c.loop.rest.now c.in_ok-change.change c.in_ok-change.after.now (list_at change_at c.args.count c.args.bytes.now) c.loop-test.true c.in_ok-change.ensures c.loop.invariant)

pub returns : goal.returns
returns c = is_done change_at c.loop.changes.items c.args.count c.loop.counter c.loop.rest.now (list_at change_at c.args.count c.args.bytes.now) c.loop-test.false c.loop.invariant
