use Rattle.std.proofs.Common.{Some, refl, subst}
use Rattle.cluster.specs.declared.event.Answer.{Answer}
use Rattle.cluster.specs.declared.event.What.TheVariants.{Ended}
use Rattle.cluster.specs.declared.step.Step.TheVariants.{Start}
use Rattle.tuples.specs.declared.request.Request.TheVariants.{Read}
use Rattle.dumping.specs.Gathering.{Plays}
use Rattle.dumping.proofs.reading.read.Goals as goal

pub returns-in-Selected-clause-ok : goal.returns-in-Selected-clause-ok
returns-in-Selected-clause-ok g c = record {
  asked = c.in-Ok.sets;
  told = c.in-Selected.sets;
  asked_is = c.in-Ok.ensures;
  told_is = refl;
  plays = subst (λ (a : Answer). Plays g.S.Store.takes g.S.Store.nexts (Start (Read c.args.freshness c.in-Ok.sets)) c.args.store.now (Some (Ended a)) c.serve.new.store) c.in-Selected.is c.in_ok-place.ensures.ok;
}
