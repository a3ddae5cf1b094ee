use Rattle.std.proofs.Common.{rules, ◌∙◌, ap, sym, subst, List, ℕ}
use Rattle.device.specs.Device.{Leaves}
use Rattle.device.specs.Faults.{or_old}
use Rattle.device.specs.Sim.{Image, replay, all_durable, found}
use Rattle.device.proofs.History.{made_image, made_elapses, found_left, replay_readable}
use Rattle.device.proofs.sim_device.SimDiskDevice.revive.Goals as goal

pub returns-in-Ok-clause-ok : goal.returns-in-Ok-clause-ok
returns-in-Ok-clause-ok c =
    let s = c.args.self.now in
    let n = c.restore.new.self in
    let was : Image = replay s.first.items s.history.items in
    let image = made_image n.first.items s.first.items s.history.items n.history.items (λ m. all_durable (found (or_old s.faults.tear) m)) c.in-Ok.ensures.first c.in-Ok.ensures.made in
    record {
      found = subst (λ (l : List ℕ). Leaves was.durable was.written l) (sym c.in-Ok.ensures.seen) (found_left (or_old s.faults.tear) was (replay_readable s.first.items s.history.items));
      durable = ap (λ (m : Image). m.durable) image ∙ sym c.in-Ok.ensures.seen;
      written = ap (λ (m : Image). m.written) image;
      stopped = search rules;
    }

pub returns-in-Ok-clause-time : goal.returns-in-Ok-clause-time
returns-in-Ok-clause-time c =
    let s = c.args.self.now in
    let n = c.restore.new.self in
    made_elapses n.first.items s.first.items s.history.items n.history.items (λ m. all_durable (found (or_old s.faults.tear) m)) c.in-Ok.ensures.first c.in-Ok.ensures.made
