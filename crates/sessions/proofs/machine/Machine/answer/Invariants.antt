use Rattle.std.proofs.Common.{◌≡◌}
use Rattle.sessions.specs.Machines.{StandsOn}
use Rattle.sessions.specs.declared.machine.Phase.TheVariants.{Open}
use Rattle.sessions.proofs.machine.Machine.answer.Given as goal

abbrev pub invariant-loop : goal.invariant-loop
invariant-loop g l = (l.self.phase ≡ Open) × StandsOn l.store g.A.Answers.gives l.fn.self l.fn.answers l.self l.answers
