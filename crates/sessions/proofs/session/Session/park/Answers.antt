use Rattle.std.proofs.Math.Logic.{∥∥₁_map}
use Rattle.sessions.specs.Machines.{all_read, all_written, left_of}
use Rattle.sessions.specs.Unsent.{unsent}
use Rattle.sessions.proofs.Bounded.{bounded_kept}
use Rattle.sessions.proofs.Told.{kept_by}
use Rattle.sessions.proofs.session.Session.park.Goals as goal

pub invariant_of-self : goal.invariant_of-self
invariant_of-self g c =
    let s = c.args.self.now in
    let m = s.machine in
    let n = c.park.new.self in
    let told = c.park.ensures in
    record {
      stands = ∥∥₁_map s.stands
          (λ x. (
            x.0,
            (
              kept_by s.store g.A.Answers.gives x.0 (all_read s.read.items) (all_written s.written.items) m.line (left_of m.block) (unsent m.waiting) m.phase s.answers n.line (left_of n.block) (unsent n.waiting) n.phase
                  x.1.0 told.rest.0 told.left told.waiting told.rest.1,
              bounded_kept s.store m.waiting.bytes.items n.waiting.bytes.items x.1.1 told.bounded,
            ),
            x.2,
          ));
    }
