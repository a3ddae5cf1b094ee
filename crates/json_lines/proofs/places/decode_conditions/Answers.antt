use Rattle.std.proofs.Common.{ap, length, arith}
use Rattle.json_lines.proofs.Causing.{conditions_more, unplaced}
use Rattle.json_lines.proofs.places.decode_conditions.Goals as goal

pub returns-in-Err-clause-err : goal.returns-in-Err-clause-err
returns-in-Err-clause-err c =
    let left = ap length c.in-Some.ensures.steps.0 in
    unplaced c.args.store c.args.shapes.now c.loop-tuple.conditions.len _ _ (omega (arith, left, c.loop-tuple.invariant.long)) c.loop-tuple.invariant.placed (rw c.len.ensures at c.in-Err.ensures)

pub loop-tuple-preserved : goal.loop-tuple-preserved
loop-tuple-preserved c =
    let left = ap length c.in-Some.ensures.steps.0 in
    let pushed = ap length c.push_reserved.ensures.items in
    let more = conditions_more c.args.store c.args.shapes.now c.loop-tuple.conditions.items c.push_reserved.new.self.items c.args.tuples.items _ _ c.loop-tuple.conditions.len c.push_reserved.new.self.len _ c.in-Some.tuple c.in-Ok.want (omega (arith, left, c.loop-tuple.invariant.long)) (omega arith) c.requires.0
    c.loop-tuple.invariant.taken c.in-Some.ensures.steps.0 c.loop-tuple.invariant.made c.loop-tuple.invariant.placed (rw c.len.ensures at c.in-Ok.ensures) c.push_reserved.ensures.items (omega (arith, pushed)) in
    record { taken = more.0; made = more.1; placed = more.2; long = omega (arith, left, pushed, c.loop-tuple.invariant.long); room = omega (arith, c.loop-tuple.invariant.room) }
