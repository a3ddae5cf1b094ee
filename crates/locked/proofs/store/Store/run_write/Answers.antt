use Rattle.std.proofs.Common.{◌≡◌, length, arith, subst}
use Rattle.calls.specs.Flows.{IfNext}
use Rattle.commit_flow.specs.Flows.{WriteFlowValue, seen_after}
use Rattle.commit_flow.specs.declared.end.WriteEnd.{WriteEnd}
use Rattle.locked.proofs.Words.{IsKnownWriteOf, Progress, RefusesAsTold, prefix_length}
use Rattle.locked.proofs.Passes.{later_on, later_self}
use Rattle.locked.proofs.WriteTurns.{told_goes_on, write_goes_on, write_hands_over}
use Rattle.locked.proofs.store.Store.run_write.Goals as goal

pub loop-init : goal.loop-init
loop-init g c = record {
  runs = (tt, tt);
  of = c.requires.of;
  later = later_self c.args.caller.now.pass;
  held = λ rests asked above le is. is;
  told = λ is. is;
}

pub turn-after-requires-clause-hands : goal.turn-after-requires-clause-hands
turn-after-requires-clause-hands g c rests call out asks =
    let some = c.requires.asked in
    let before = length c.args.caller.now.pass.seen in
    write_hands_over c.loop.caller.tried.seen some.0 before c.loop.caller.pass c.loop.flow call out (c.loop.invariant.held rests some.0 before (omega (arith)) some.1) asks

pub loop-preserved : goal.loop-preserved
loop-preserved g c =
    let was = c.loop.invariant in
    let turns = c.turn-after.ensures.turns in
    let then = c.turn-after.new.caller in
    let within = prefix_length c.args.caller.now.pass.seen c.loop.caller.pass.seen was.later.seen in
    record {
      runs = (tt, tt);
      of = subst (λ (p : Progress WriteFlowValue WriteEnd). IfNext p (λ f. f.shards ≡ g.B.Room.shards)) c.in-Next.is c.turn-after.ensures.of;
      later = later_on c.args.caller.now.pass c.loop.caller.pass then.pass was.later turns.serves.later;
      held = λ rests asked above le is. subst (λ (p : Progress WriteFlowValue WriteEnd). IsKnownWriteOf then.tried.seen asked above then.pass.seen (seen_after p)) c.in-Next.is
          (write_goes_on g.B.Room.rests asked above g.B.Room.shards c.loop.caller.pass then.pass c.loop.told c.turn-after.new.told c.loop.flow c.turn-after.result.0 was.of turns (omega (arith, le, within)) rests (was.held rests asked above le is));
      told = λ is. subst (λ (p : Progress WriteFlowValue WriteEnd). RefusesAsTold g.B.Room.shards c.turn-after.new.told (seen_after p)) c.in-Next.is
          (told_goes_on g.B.Room.rests g.B.Room.shards c.loop.caller.pass then.pass c.loop.told c.turn-after.new.told c.loop.flow c.turn-after.result.0 was.of turns (was.told is));
    }

pub returns-in-Ended-clause-later : goal.returns-in-Ended-clause-later
returns-in-Ended-clause-later g c = later_on c.args.caller.now.pass c.loop.caller.pass c.turn-after.new.caller.pass c.loop.invariant.later c.turn-after.ensures.turns.serves.later

pub returns-in-Ended-clause-held : goal.returns-in-Ended-clause-held
returns-in-Ended-clause-held g c = λ rests asked above le is.
    let was = c.loop.invariant in
    let then = c.turn-after.new.caller in
    let within = prefix_length c.args.caller.now.pass.seen c.loop.caller.pass.seen was.later.seen in
    subst (λ (p : Progress WriteFlowValue WriteEnd). IsKnownWriteOf then.tried.seen asked above then.pass.seen (seen_after p)) c.in-Ended.is
    (write_goes_on g.B.Room.rests asked above g.B.Room.shards c.loop.caller.pass then.pass c.loop.told c.turn-after.new.told c.loop.flow c.turn-after.result.0 was.of c.turn-after.ensures.turns (omega (arith, le, within)) rests (was.held rests asked above le is))

pub returns-in-Ended-clause-told : goal.returns-in-Ended-clause-told
returns-in-Ended-clause-told g c = λ is. subst (λ (p : Progress WriteFlowValue WriteEnd). RefusesAsTold g.B.Room.shards c.turn-after.new.told (seen_after p)) c.in-Ended.is
    (told_goes_on g.B.Room.rests g.B.Room.shards c.loop.caller.pass c.turn-after.new.caller.pass c.loop.told c.turn-after.new.told c.loop.flow c.turn-after.result.0 c.loop.invariant.of c.turn-after.ensures.turns (c.loop.invariant.told is))
