-- It keeps that all have settled.
use Rattle.care_flow.proofs.gathering.Gathered.into_parts.Goals as goal

pub returns-clause-all : goal.returns-clause-all
returns-clause-all c = rw (← c.self.view_is) c.self.invariant
