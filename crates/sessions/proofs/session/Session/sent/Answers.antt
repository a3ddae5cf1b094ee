use Rattle.std.proofs.Common.{ℕ, subst, sym}
use Rattle.std.specs.Global.{Vec}
use Rattle.std.proofs.Math.Logic.{∥∥₁_map}
use Rattle.sessions.specs.Machines.{all_read, left_of}
use Rattle.sessions.specs.Bounds.{IsBounded}
use Rattle.sessions.proofs.Told.{bytes_went}
use Rattle.sessions.proofs.session.Session.sent.Goals as goal

pub invariant_of-self : goal.invariant_of-self
invariant_of-self g c =
    let s = c.args.self.now in
    record {
      stands = ∥∥₁_map s.stands
          (λ x. (
            x.0,
            (
              bytes_went s.store g.A.Answers.gives x.0 (all_read s.read.items) s.machine.line (left_of s.machine.block) s.machine.phase s.answers s.written.items c.and-self.result.items s.machine.waiting c.note_sent.new.self
                  c.args.count x.1.0 c.and-self.ensures c.note_sent.ensures.unsent,
              subst (λ (v : Vec ℕ). IsBounded s.store v.items) (sym c.note_sent.ensures.bytes) x.1.1,
            ),
            x.2,
          ));
    }
