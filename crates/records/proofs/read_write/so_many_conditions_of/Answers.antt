use Rattle.std.proofs.lemmas.Result.{err_from_is_err_and}
use Rattle.records.specs.Reading.{list_at, condition_at}
use Rattle.records.proofs.Loop.{goes_on, ends, is_done}
use Rattle.records.proofs.read_write.so_many_conditions_of.Goals as goal

pub returns-in_err-condition : goal.returns-in_err-condition
returns-in_err-condition c =
    let p = err_from_is_err_and c.from_residual-in_err-condition.result c.from_residual-in_err-condition.ensures.1 in
    rw (p.1, p.2) (ends c.in_err-condition.field-0.0 (condition_at c.args.first) c.loop.conditions.items c.args.count c.loop.counter c.loop.rest.now (list_at (condition_at c.args.first) c.args.count c.args.bytes.now) c.loop-test.true c.in_err-condition.ensures c.loop.invariant)

pub loop-preserved : goal.loop-preserved
loop-preserved c =
    rw c.in_ok-push.ensures.items (goes_on (condition_at c.args.first) c.loop.conditions.items c.args.count c.loop.counter c.loop.rest.now c.in_ok-condition.condition c.in_ok-condition.after.now (list_at (condition_at c.args.first) c.args.count c.args.bytes.now) c.loop-test.true c.in_ok-condition.ensures c.loop.invariant)

pub returns : goal.returns
returns c = is_done (condition_at c.args.first) c.loop.conditions.items c.args.count c.loop.counter c.loop.rest.now (list_at (condition_at c.args.first) c.args.count c.args.bytes.now) c.loop-test.false c.loop.invariant
