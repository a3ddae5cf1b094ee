use Rattle.std.proofs.Common.{length}
use Rattle.locked.proofs.Words.{prefix_length}
use Rattle.answer_flow.specs.CheckViews.{ending_of}
use Rattle.locked.proofs.CheckTurns.{check_ends, check_refuses}
use Rattle.locked.proofs.store.Store.try_check.Goals as goal

pub returns-in-Ok-clause-answer : goal.returns-in-Ok-clause-answer
returns-in-Ok-clause-answer g c rests =
    check_ends g.B.Room.rests g.B.Room.shards c.begin_check.new.caller.pass.seen c.run_check.new.caller.pass.seen c.args.freshness (length c.args.caller.now.pass.seen) c.args.userset.now c.args.user c.in-Ok.flow
    (ending_of c.run_check.result.end) c.in-Ok.ensures.runs (c.run_check.ensures.held rests)

pub returns-in-Ok-clause-refused : goal.returns-in-Ok-clause-refused
returns-in-Ok-clause-refused g c rests =
    let run = c.run_check.ensures in
    check_refuses g.B.Room.rests g.B.Room.shards c.begin_check.new.caller.pass.seen c.run_check.new.caller.pass.seen c.args.freshness (length c.args.caller.now.pass.seen) c.run_check.new.caller.pass.horizon c.run_check.new.told c.args.userset.now c.args.user
    c.in-Ok.flow (ending_of c.run_check.result.end) c.in-Ok.ensures.runs (prefix_length c.begin_check.new.caller.pass.seen c.run_check.new.caller.pass.seen run.caller.seen) (run.reason rests)
