use Rattle.std.proofs.Common.{subst}
use Rattle.locked.proofs.Passes.{later_on, later_self}
use Rattle.locked.proofs.CheckTurns.{CheckGoesOn, check_goes_on, check_waits}
use Rattle.locked.proofs.HastenedChecks.{hastened}
use Rattle.locked.proofs.store.Store.run_check.Goals as goal

pub loop-init : goal.loop-init
loop-init g c = record {
  runs = (tt, tt);
  later = later_self c.args.caller.now.pass;
  on = check_waits g.B.Room.rests g.B.Room.shards c.args.caller.now.pass c.args.told.now c.args.userset.now c.args.flow c.requires.of c.requires.held;
}

pub loop-preserved : goal.loop-preserved
loop-preserved g c =
    let was = c.loop.invariant in
    let turns = c.turn-after.ensures.turns in
    let on = subst (CheckGoesOn g.B.Room.rests g.B.Room.shards c.loop.caller.pass c.loop.told c.args.userset.now c.args.flow.fresh c.args.flow.user) c.in-Next.is
    (hastened g.B.Room.rests g.B.Room.shards c.loop.caller.pass c.loop.told c.args.userset.now c.args.flow.fresh c.args.flow.user c.loop.flow c.hasten.result was.on c.hasten.ensures.asked c.hasten.ensures.hastens) in
    record {
      runs = (tt, tt);
      later = later_on c.args.caller.now.pass c.loop.caller.pass c.turn-after.new.caller.pass was.later turns.serves.later;
      on = subst (CheckGoesOn g.B.Room.rests g.B.Room.shards c.turn-after.new.caller.pass c.turn-after.new.told c.args.userset.now c.args.flow.fresh c.args.flow.user) c.in-Next-after.is
          (check_goes_on g.B.Room.rests g.B.Room.shards c.loop.caller.pass c.turn-after.new.caller.pass c.loop.told c.turn-after.new.told c.args.userset.now c.args.flow.fresh c.args.flow.user c.in-Next.hastened c.turn-after.result.0 on turns);
    }

-- memory was refused as a shard was to be read
pub returns-in-Ended-clause-held : goal.returns-in-Ended-clause-held
returns-in-Ended-clause-held g c =
    let on = subst (CheckGoesOn g.B.Room.rests g.B.Room.shards c.loop.caller.pass c.loop.told c.args.userset.now c.args.flow.fresh c.args.flow.user) c.in-Ended.is
    (hastened g.B.Room.rests g.B.Room.shards c.loop.caller.pass c.loop.told c.args.userset.now c.args.flow.fresh c.args.flow.user c.loop.flow c.hasten.result c.loop.invariant.on c.hasten.ensures.asked c.hasten.ensures.hastens) in on.held

pub returns-in-Ended-clause-reason : goal.returns-in-Ended-clause-reason
returns-in-Ended-clause-reason g c =
    let on = subst (CheckGoesOn g.B.Room.rests g.B.Room.shards c.loop.caller.pass c.loop.told c.args.userset.now c.args.flow.fresh c.args.flow.user) c.in-Ended.is
    (hastened g.B.Room.rests g.B.Room.shards c.loop.caller.pass c.loop.told c.args.userset.now c.args.flow.fresh c.args.flow.user c.loop.flow c.hasten.result c.loop.invariant.on c.hasten.ensures.asked c.hasten.ensures.hastens) in on.reason

-- its turn has ended it
pub returns-in-Ended-after-clause-held : goal.returns-in-Ended-after-clause-held
returns-in-Ended-after-clause-held g c =
    let on = subst (CheckGoesOn g.B.Room.rests g.B.Room.shards c.loop.caller.pass c.loop.told c.args.userset.now c.args.flow.fresh c.args.flow.user) c.in-Next.is
    (hastened g.B.Room.rests g.B.Room.shards c.loop.caller.pass c.loop.told c.args.userset.now c.args.flow.fresh c.args.flow.user c.loop.flow c.hasten.result c.loop.invariant.on c.hasten.ensures.asked c.hasten.ensures.hastens) in
    let then = subst (CheckGoesOn g.B.Room.rests g.B.Room.shards c.turn-after.new.caller.pass c.turn-after.new.told c.args.userset.now c.args.flow.fresh c.args.flow.user) c.in-Ended-after.is
    (check_goes_on g.B.Room.rests g.B.Room.shards c.loop.caller.pass c.turn-after.new.caller.pass c.loop.told c.turn-after.new.told c.args.userset.now c.args.flow.fresh c.args.flow.user c.in-Next.hastened c.turn-after.result.0 on c.turn-after.ensures.turns) in then.held

pub returns-in-Ended-after-clause-reason : goal.returns-in-Ended-after-clause-reason
returns-in-Ended-after-clause-reason g c =
    let on = subst (CheckGoesOn g.B.Room.rests g.B.Room.shards c.loop.caller.pass c.loop.told c.args.userset.now c.args.flow.fresh c.args.flow.user) c.in-Next.is
    (hastened g.B.Room.rests g.B.Room.shards c.loop.caller.pass c.loop.told c.args.userset.now c.args.flow.fresh c.args.flow.user c.loop.flow c.hasten.result c.loop.invariant.on c.hasten.ensures.asked c.hasten.ensures.hastens) in
    let then = subst (CheckGoesOn g.B.Room.rests g.B.Room.shards c.turn-after.new.caller.pass c.turn-after.new.told c.args.userset.now c.args.flow.fresh c.args.flow.user) c.in-Ended-after.is
    (check_goes_on g.B.Room.rests g.B.Room.shards c.loop.caller.pass c.turn-after.new.caller.pass c.loop.told c.turn-after.new.told c.args.userset.now c.args.flow.fresh c.args.flow.user c.in-Next.hastened c.turn-after.result.0 on c.turn-after.ensures.turns) in then.reason
