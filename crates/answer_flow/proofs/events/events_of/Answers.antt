-- One write more.
use Rattle.std.proofs.Common.{◌≡◌, ◌<◌, ◌+◌, length, arith}
use Rattle.std.proofs.Math.ListN.{get_or}
use Rattle.answer_flow.proofs.EventLists.{events-more}
use Rattle.answer_flow.proofs.events.events_of.Goals as goal

pub loop-write-preserved : goal.loop-write-preserved
loop-write-preserved c =
    let at : c.loop-write.place + 1 ≡ c.args.batch.now.from + (c.loop-write.write-index + 1) = omega (arith, c.loop-write.invariant.place) in
    let within : c.loop-write.write-index < length c.args.batch.now.writes = rw c.writes-write-items.ensures.value at c.loop-write-test.true in
    let there : c.write-item.result ≡ get_or c.args.batch.now.writes c.loop-write.write-index c.write-item.result = rw c.writes-write-items.ensures.value at c.write-item.is in
    let more = events-more (c.args.batch.now.from + 1) (c.loop-write.place + 1) c.args.namespaces.now c.args.batch.now.writes c.loop-write.write-index c.write-item.result within there (omega (arith, at)) in
    record {
      place = at;
      events = cc (more, c.in_ok-push_events.ensures, c.loop-write.invariant.events, c.as_slice.ensures);
    }
