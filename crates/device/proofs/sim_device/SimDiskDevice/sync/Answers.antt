use Rattle.std.proofs.Common.{rules, ◌∙◌, ap, sym}
use Rattle.device.specs.Sim.{Image, all_durable}
use Rattle.device.proofs.History.{made_image, made_elapses}
use Rattle.device.proofs.sim_device.SimDiskDevice.sync.Goals as goal

pub returns-in-Ok-clause-ok : goal.returns-in-Ok-clause-ok
returns-in-Ok-clause-ok c =
    let s = c.args.self.now in
    let n = c.keep_sync.new.self in
    let image = made_image n.first.items s.first.items s.history.items n.history.items (λ m. all_durable m.seen) c.in-Ok.ensures.first c.in-Ok.ensures.made in
    record {
      seen = c.in-Ok.ensures.seen;
      durable = ap (λ (m : Image). m.durable) image ∙ sym s.reads;
      written = ap (λ (m : Image). m.written) image;
      stopped = search rules;
    }

pub returns-in-Ok-clause-time : goal.returns-in-Ok-clause-time
returns-in-Ok-clause-time c =
    let s = c.args.self.now in
    let n = c.keep_sync.new.self in
    made_elapses n.first.items s.first.items s.history.items n.history.items (λ m. all_durable m.seen) c.in-Ok.ensures.first c.in-Ok.ensures.made
