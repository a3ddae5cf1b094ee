use Rattle.std.proofs.lemmas.Result.{err_from_is_err_and}
use Rattle.records.specs.Reading.{list_at, placed_id_at}
use Rattle.records.proofs.Loop.{goes_on, ends, is_done}
use Rattle.records.proofs.read_write.so_many_placed_ids_of.Goals as goal

pub returns-in_err-placed_id : goal.returns-in_err-placed_id
returns-in_err-placed_id c =
    let p = err_from_is_err_and c.from_residual-in_err-placed_id.result c.from_residual-in_err-placed_id.ensures.1 in
    rw (p.1, p.2) (ends c.in_err-placed_id.field-0.0 placed_id_at c.loop.placed_ids.items c.args.count c.loop.counter c.loop.rest.now (list_at placed_id_at c.args.count c.args.bytes.now) c.loop-test.true c.in_err-placed_id.ensures c.loop.invariant)

pub loop-preserved : goal.loop-preserved
loop-preserved c =
    rw c.in_ok-push.ensures.items (goes_on placed_id_at c.loop.placed_ids.items c.args.count c.loop.counter c.loop.rest.now c.in_ok-placed_id.placed_id c.in_ok-placed_id.after.now (list_at placed_id_at c.args.count c.args.bytes.now) c.loop-test.true c.in_ok-placed_id.ensures c.loop.invariant)

pub returns : goal.returns
returns c = is_done placed_id_at c.loop.placed_ids.items c.args.count c.loop.counter c.loop.rest.now (list_at placed_id_at c.args.count c.args.bytes.now) c.loop-test.false c.loop.invariant
