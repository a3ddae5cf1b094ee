use Rattle.std.proofs.Common.{subst, sym, ◌∙◌}
use Rattle.tuples.specs.declared.entry.Entry.{Entry}
use Rattle.published.specs.Known.{Known}
use Rattle.locked.specs.Opening.{HasFound}
use Rattle.server.proofs.fork.StoreForkFork.another.Goals as goal

pub invariant_of-self : goal.invariant_of-self
invariant_of-self g c = record {
  of = c.args.self.now.of;
  found = rw c.another-caller.ensures.same c.args.self.now.found;
}

pub returns : goal.returns
returns g c =
    subst (λ (known : Known Entry). ∥ (g.B.Room.rests → HasFound g.B.Room.first g.B.Room.low known) ∥₁) (sym (c.new.ensures ∙ c.another-caller.ensures.knows.0)) c.args.self.now.found
