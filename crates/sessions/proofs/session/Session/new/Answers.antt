use Rattle.std.proofs.Common.{◌≡◌, ℕ, [], drop, ap, ◌∙◌, rules}
use Rattle.sessions.specs.Machines.{all_read, all_written, left_of}
use Rattle.sessions.specs.Unsent.{unsent}
use Rattle.sessions.proofs.Bounded.{bounded_none}
use Rattle.sessions.proofs.Told.{begins}
use Rattle.sessions.proofs.session.Session.new.Goals as goal

pub invariant_of-result : goal.invariant_of-result
invariant_of-result g c =
    let m = c.new-machine.result in
    let is_new = c.new-machine.ensures in
    let empty : unsent m.waiting ≡ [] = ap (λ (n : ℕ). drop n m.waiting.bytes.items) is_new.3 ∙ is_new.2 in
    record {
      stands = ∣ (
        c.args.answers,
        (
          begins c.store_id-store.result g.A.Answers.gives c.args.answers m.line (unsent m.waiting) c.args.answers (all_read c.new-read.result.items) (all_written c.new-written.result.items) (left_of m.block) m.phase
              (ap all_read c.new-read.ensures) (ap all_written c.new-written.ensures) is_new.0 (ap left_of is_new.1) empty is_new.4,
          bounded_none c.store_id-store.result m.waiting.bytes.items is_new.2,
        ),
        first_of (cc, search rules),
      ) ∣₁;
    }
