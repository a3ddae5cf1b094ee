use Rattle.std.proofs.Common.{subst}
use Rattle.locked.proofs.Passes.{later_on, later_self}
use Rattle.locked.proofs.ReadTurns.{ReadGoesOn, read_goes_on, read_waits}
use Rattle.locked.proofs.store.Store.run_read.Goals as goal

pub loop-init : goal.loop-init
loop-init g c = record {
  runs = (tt, tt);
  later = later_self c.args.caller.now.pass;
  on = read_waits g.B.Room.rests g.B.Room.shards c.args.caller.now.pass c.args.told.now c.args.flow c.requires.of c.requires.held;
}

pub loop-preserved : goal.loop-preserved
loop-preserved g c =
    let was = c.loop.invariant in
    let turns = c.turn-after.ensures.turns in
    record {
      runs = (tt, tt);
      later = later_on c.args.caller.now.pass c.loop.caller.pass c.turn-after.new.caller.pass was.later turns.serves.later;
      on = subst (ReadGoesOn g.B.Room.rests g.B.Room.shards c.turn-after.new.caller.pass c.turn-after.new.told c.args.flow.fresh c.args.flow.sets) c.in-Next.is
          (read_goes_on g.B.Room.rests g.B.Room.shards c.loop.caller.pass c.turn-after.new.caller.pass c.loop.told c.turn-after.new.told c.args.flow.fresh c.args.flow.sets c.loop.flow c.hasten-hastened.result c.turn-after.result.0 was.on c.hasten-hastened.ensures.asked
          c.hasten-hastened.ensures.hastens turns);
    }

pub returns-in-Ended-clause-held : goal.returns-in-Ended-clause-held
returns-in-Ended-clause-held g c =
    let on = subst (ReadGoesOn g.B.Room.rests g.B.Room.shards c.turn-after.new.caller.pass c.turn-after.new.told c.args.flow.fresh c.args.flow.sets) c.in-Ended.is
    (read_goes_on g.B.Room.rests g.B.Room.shards c.loop.caller.pass c.turn-after.new.caller.pass c.loop.told c.turn-after.new.told c.args.flow.fresh c.args.flow.sets c.loop.flow c.hasten-hastened.result c.turn-after.result.0 c.loop.invariant.on
    c.hasten-hastened.ensures.asked c.hasten-hastened.ensures.hastens c.turn-after.ensures.turns) in on.held

pub returns-in-Ended-clause-reason : goal.returns-in-Ended-clause-reason
returns-in-Ended-clause-reason g c =
    let on = subst (ReadGoesOn g.B.Room.rests g.B.Room.shards c.turn-after.new.caller.pass c.turn-after.new.told c.args.flow.fresh c.args.flow.sets) c.in-Ended.is
    (read_goes_on g.B.Room.rests g.B.Room.shards c.loop.caller.pass c.turn-after.new.caller.pass c.loop.told c.turn-after.new.told c.args.flow.fresh c.args.flow.sets c.loop.flow c.hasten-hastened.result c.turn-after.result.0 c.loop.invariant.on
    c.hasten-hastened.ensures.asked c.hasten-hastened.ensures.hastens c.turn-after.ensures.turns) in on.reason

pub returns-in-Ended-clause-sets : goal.returns-in-Ended-clause-sets
returns-in-Ended-clause-sets g c =
    let on = subst (ReadGoesOn g.B.Room.rests g.B.Room.shards c.turn-after.new.caller.pass c.turn-after.new.told c.args.flow.fresh c.args.flow.sets) c.in-Ended.is
    (read_goes_on g.B.Room.rests g.B.Room.shards c.loop.caller.pass c.turn-after.new.caller.pass c.loop.told c.turn-after.new.told c.args.flow.fresh c.args.flow.sets c.loop.flow c.hasten-hastened.result c.turn-after.result.0 c.loop.invariant.on
    c.hasten-hastened.ensures.asked c.hasten-hastened.ensures.hastens c.turn-after.ensures.turns) in on.asked
