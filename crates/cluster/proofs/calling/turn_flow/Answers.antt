-- A flow turns by its kind.
use Rattle.std.proofs.Common.{refl, subst}
use Rattle.calls.specs.declared.progress.Progress.TheVariants.{Ended, Next}
use Rattle.cluster.specs.Flows.{IsOf}
use Rattle.cluster.proofs.calling.turn_flow.Goals as goal

pub turn-requires : goal.turn-requires
turn-requires g c = subst (IsOf c.args.shards) c.in-Write.is c.requires

pub returns-in-Write-clause-turns : goal.returns-in-Write-clause-turns
returns-in-Write-clause-turns g c = rw c.in-Write.is c.turn.ensures.turns

pub turn_read-requires : goal.turn_read-requires
turn_read-requires g c = subst (IsOf c.args.shards) c.in-Read.is c.requires

pub returns-in-Read-clause-turns : goal.returns-in-Read-clause-turns
returns-in-Read-clause-turns g c = rw c.in-Read.is c.turn_read.ensures.turns

pub turn_check-requires : goal.turn_check-requires
turn_check-requires g c = subst (IsOf c.args.shards) c.in-Check.is c.requires

pub returns-in-Check-clause-turns : goal.returns-in-Check-clause-turns
returns-in-Check-clause-turns g c = rw c.in-Check.is c.turn_check.ensures.turns

pub returns-in-Watch-clause-turns : goal.returns-in-Watch-clause-turns
returns-in-Watch-clause-turns g c = rw c.in-Watch.is c.turn_watch.ensures.turns

pub returns-in-Next-clause-turns : goal.returns-in-Next-clause-turns
returns-in-Next-clause-turns g c = rw c.in-Care.is (Next c.in-Next.flow, c.in-Next.ensures.turns, refl)

pub returns-in-Ended-clause-turns : goal.returns-in-Ended-clause-turns
returns-in-Ended-clause-turns g c = rw c.in-Care.is (Ended c.in-Ended.end, c.in-Ended.ensures.turns, c.told_of_care.ensures)
