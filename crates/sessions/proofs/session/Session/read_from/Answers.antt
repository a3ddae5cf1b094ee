use Rattle.std.proofs.Common.{ap, ◌∙◌, sym, subst}
use Rattle.std.proofs.Math.Logic.{∥∥₁_map}
use Rattle.sessions.specs.Machines.{all_read, all_written, left_of}
use Rattle.sessions.specs.Unsent.{unsent}
use Rattle.sessions.specs.Bounds.{IsBounded}
use Rattle.sessions.specs.declared.machine.Phase.TheVariants.{Open}
use Rattle.sessions.specs.declared.waiting.Waiting.{Waiting}
use Rattle.sessions.proofs.Going.{held_by}
use Rattle.sessions.proofs.Told.{block_came, kept_by}
use Rattle.sessions.proofs.session.Session.read_from.Goals as goal

pub invariant_of-self : goal.invariant_of-self
invariant_of-self g c =
    let s = c.args.self.now in
    let m = s.machine in
    let n = c.read_from.new.self in
    let rest = c.read_from.ensures.rest in
    record {
      stands = ∥∥₁_map s.stands
          (λ x. (
            x.0,
            (
              kept_by s.store g.A.Answers.gives x.0 (all_read s.read.items) (all_written s.written.items) m.line (left_of m.block) (unsent m.waiting) m.phase s.answers n.line (left_of n.block) (unsent n.waiting) n.phase
                  x.1.0 rest.0 (c.in_err-has_bytes.ensures.none ∙ sym c.requires.looked) (ap unsent rest.1) rest.2,
              subst (λ (w : Waiting). IsBounded s.store w.bytes.items) (sym rest.1) x.1.1,
            ),
            x.2,
          ));
    }

pub invariant_of-self-2 : goal.invariant_of-self-2
invariant_of-self-2 g c =
    let s = c.args.self.now in
    let m = s.machine in
    let n = c.read_from.new.self in
    let rest = c.read_from.ensures.rest in
    record {
      stands = ∥∥₁_map s.stands
          (λ x. (
            x.0,
            (
              held_by s.store g.A.Answers.gives x.0 (all_read c.and-self.result.items) (all_written s.written.items) m.line (left_of n.block) (unsent m.waiting) s.answers Open n.line (unsent n.waiting) n.phase
                  (block_came s.store g.A.Answers.gives x.0 m.line (unsent m.waiting) s.answers s.read.items c.and-self.result.items (all_written s.written.items) (left_of m.block) n.block m.phase c.requires.open
                  x.1.0 c.requires.looked c.and-self.ensures)
                  rest.0 (ap unsent rest.1) (rest.2 ∙ c.requires.open),
              subst (λ (w : Waiting). IsBounded s.store w.bytes.items) (sym rest.1) x.1.1,
            ),
            x.2,
          ));
    }
