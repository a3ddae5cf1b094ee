-- What is reported of its end is told of it.
use Rattle.std.proofs.Common.{refl}
use Rattle.calls.specs.declared.progress.Progress.TheVariants.{Ended, Next}
use Rattle.cluster.proofs.flow.Writing.turn.Goals as goal

pub returns-in-Next-clause-turns : goal.returns-in-Next-clause-turns
returns-in-Next-clause-turns g c = (Next c.in-Next.flow, c.in-Next.ensures.turns, refl)

pub returns-in-Ended-clause-turns : goal.returns-in-Ended-clause-turns
returns-in-Ended-clause-turns g c = (Ended c.in-Ended.end, c.in-Ended.ensures.turns, (c.told_of_write.result, c.told_of_write.ensures, c.unless.ensures))
