use Rattle.std.proofs.Common.{subst}
use Rattle.calls.specs.Flows.{IfNext}
use Rattle.calls.specs.declared.progress.Progress.{Progress}
use Rattle.care_flow.specs.declared.care.CareFlow.{CareFlow}
use Rattle.care_flow.specs.declared.end.CareEnd.{CareEnd}
use Rattle.care_flow.specs.Cares.{IsThere}
use Rattle.locked.proofs.Words.{IsCareOf}
use Rattle.locked.proofs.Passes.{later_on}
use Rattle.locked.proofs.CareTurns.{care_goes_on}
use Rattle.locked.proofs.store.Store.run_care.Goals as goal

pub loop-preserved : goal.loop-preserved
loop-preserved g c =
    let was = c.loop.invariant in
    let turns = c.turn-after.ensures.turns in
    record {
      runs = (tt, tt);
      of = subst (λ (p : Progress CareFlow CareEnd). IfNext p (IsThere g.B.Room.shards)) c.in-Next.is c.turn-after.ensures.of;
      later = later_on c.args.caller.now.pass c.loop.caller.pass c.turn-after.new.caller.pass was.later turns.serves.later;
      held = λ h. subst (λ (p : Progress CareFlow CareEnd). IfNext p (IsCareOf c.turn-after.new.caller.pass.seen c.turn-after.new.caller.pass.horizon)) c.in-Next.is
          (care_goes_on g.B.Room.rests g.B.Room.shards c.loop.caller.pass c.turn-after.new.caller.pass c.loop.told c.turn-after.new.told c.loop.flow c.turn-after.result.0 (was.held h) turns h);
    }
