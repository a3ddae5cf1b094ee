use Rattle.std.proofs.Common.{ap}
use Rattle.std.proofs.Math.Logic.{∥∥₁_map}
use Rattle.sessions.specs.Machines.{all_read, all_written, left_of}
use Rattle.sessions.specs.Unsent.{unsent}
use Rattle.sessions.proofs.Told.{ended_or_not}
use Rattle.sessions.proofs.session.Session.end.Goals as goal

pub invariant_of-self : goal.invariant_of-self
invariant_of-self g c =
    let s = c.args.self.now in
    let m = s.machine in
    let n = c.end.new.self in
    let told = c.end.ensures in
    record {
      stands = ∥∥₁_map s.stands
          (λ x. (
            x.0,
            (
              ended_or_not s.store g.A.Answers.gives x.0 (all_read s.read.items) (all_written s.written.items) m.line (left_of m.block) (unsent m.waiting) m.phase s.answers n.line (left_of n.block) (unsent n.waiting) n.phase
                  c.end.result x.1.0 c.requires.open c.requires.looked told.rest.0 (ap left_of told.rest.1) told.ok told.ended told.err told.open,
              told.bounded x.1.1,
            ),
            x.2,
          ));
    }
