use Rattle.std.proofs.Common.{length, subst}
use Rattle.locked.proofs.Words.{prefix_length}
use Rattle.locked.proofs.Passes.{later_on, later_self}
use Rattle.locked.proofs.WatchTurns.{WatchGoesOn, watch_goes_on, watch_waits}
use Rattle.locked.proofs.store.Store.run_watch.Goals as goal

pub loop-init : goal.loop-init
loop-init g c = record { runs = (tt, tt); later = later_self c.args.caller.now.pass; on = watch_waits g.B.Room.rests (length c.args.caller.now.pass.seen) c.args.caller.now.pass c.args.told.now c.args.flow c.requires.held }

pub loop-preserved : goal.loop-preserved
loop-preserved g c =
    let was = c.loop.invariant in
    let turns = c.turn-after.ensures.turns in
    let before = length c.args.caller.now.pass.seen in
    record {
      runs = (tt, tt);
      later = later_on c.args.caller.now.pass c.loop.caller.pass c.turn-after.new.caller.pass was.later turns.serves.later;
      on = subst (WatchGoesOn g.B.Room.rests before c.turn-after.new.caller.pass c.turn-after.new.told c.args.flow.cursor c.args.flow.limit c.args.flow.namespaces) c.in-Next.is
          (watch_goes_on g.B.Room.rests g.B.Room.shards before c.loop.caller.pass c.turn-after.new.caller.pass c.loop.told c.turn-after.new.told c.args.flow.cursor c.args.flow.limit c.args.flow.namespaces c.loop.flow c.turn-after.result.0 c.requires.few
          (prefix_length c.args.caller.now.pass.seen c.loop.caller.pass.seen was.later.seen) was.on turns);
    }

pub returns-in-Ended-clause-held : goal.returns-in-Ended-clause-held
returns-in-Ended-clause-held g c =
    let was = c.loop.invariant in
    let before = length c.args.caller.now.pass.seen in
    let on = subst (WatchGoesOn g.B.Room.rests before c.turn-after.new.caller.pass c.turn-after.new.told c.args.flow.cursor c.args.flow.limit c.args.flow.namespaces) c.in-Ended.is
    (watch_goes_on g.B.Room.rests g.B.Room.shards before c.loop.caller.pass c.turn-after.new.caller.pass c.loop.told c.turn-after.new.told c.args.flow.cursor c.args.flow.limit c.args.flow.namespaces c.loop.flow c.turn-after.result.0 c.requires.few
    (prefix_length c.args.caller.now.pass.seen c.loop.caller.pass.seen was.later.seen) was.on c.turn-after.ensures.turns) in on.held
