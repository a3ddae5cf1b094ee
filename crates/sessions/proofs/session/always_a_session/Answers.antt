use Rattle.std.proofs.Math.Logic.{∥∥₁_map}
use Rattle.sessions.specs.Machines.{all_read, all_written, left_of}
use Rattle.sessions.specs.Unsent.{unsent}
use Rattle.sessions.proofs.Going.{session_of}
use Rattle.sessions.proofs.session.always_a_session.Goals as goal

pub returns-clause-session : goal.returns-clause-session
returns-clause-session g c =
    let s = c.args.session.now in
    ∥∥₁_map s.stands
    (λ x. (
      x.0,
      x.2,
      session_of s.store g.A.Answers.gives x.0 (all_read s.read.items) (all_written s.written.items) s.machine.line (left_of s.machine.block) (unsent s.machine.waiting) s.answers s.machine.phase x.1.0,
    ))

pub returns-clause-bounded : goal.returns-clause-bounded
returns-clause-bounded g c = ∥∥₁_map c.args.session.now.stands (λ x. x.1.1)
