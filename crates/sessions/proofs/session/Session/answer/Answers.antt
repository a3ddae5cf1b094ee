use Rattle.std.proofs.Common.{ap, ◌∙◌}
use Rattle.std.proofs.Math.Logic.{∥∥₁_map, ∥∥₁_elim}
use denote.Struct.Props.{props}
use Rattle.sessions.specs.Machines.{all_read, all_written, phase_after}
use Rattle.sessions.proofs.session.Session.answer.Goals as goal

pub invariant_of-self : goal.invariant_of-self
invariant_of-self g c =
    let s = c.args.self.now in
    record { stands = ∥∥₁_map s.stands (λ x. (x.0, (c.answer.ensures.stands x.0 (all_read s.read.items) (all_written s.written.items) x.1).0, x.2)) }

pub returns-in-Open-clause-idle : goal.returns-in-Open-clause-idle
returns-in-Open-clause-idle g c = λ is _.
    let s = c.args.self.now in (
      ∥∥₁_elim s.stands (search props) (λ x. (c.answer.ensures.stands x.0 (all_read s.read.items) (all_written s.written.items) x.1).1 is),
      c.answer.ensures.phase ∙ ap phase_after is,
    )
