use Rattle.device.proofs.History.{replayed_write, replayed_durable}
use Rattle.device.proofs.durable.durable_after.Goals as goal
use Rattle.device.proofs.durable.durable_after.Goals.{in-Some+in_ok-find, in_default}

pub loop-i-preserved : goal.loop-i-preserved
loop-i-preserved c =
    let first = c.args.first.now in
    let calls = c.args.history.now in
    let l = c.loop-i in
    let call = c.index-history-i in
    elim c.match-makes_durable.branch [
      | in-Some+in_ok-find w ↦
          rw (w.content-is, w.since-is) (replayed_durable first l.content.items w.find.new.content.items calls l.since l.i call.result w.in-Some.tear c.loop-i-test.true call.is w.in-Some.ensures w.in_ok-find.ensures l.invariant)
      | in_default w ↦
          rw (w.content-is, w.since-is) (replayed_write first l.content.items calls l.since l.i call.result c.loop-i-test.true call.is w.in_default.ensures l.invariant)
    ]
