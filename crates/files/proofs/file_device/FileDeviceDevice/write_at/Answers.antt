use Rattle.std.proofs.Common.{◌∙◌, ap}
use Rattle.files.specs.Life.{written}
use Rattle.files.proofs.Images.{noted, reads, longest_after}
use Rattle.files.proofs.file_device.FileDeviceDevice.write_at.Goals as goal

pub invariant_of-self : goal.invariant_of-self
invariant_of-self g c =
    let s = c.args.self.now in
    record {
      unread = tt;
      readable = reads c.note_write.new.self.events;
      longest = longest_after s.history.events c.note_write.new.self.events c.args.at c.args.bytes.now c.note_write.ensures (c.requires c.if-self.false) s.longest;
    }

pub returns-then-not-is_done-clause-time : goal.returns-then-not-is_done-clause-time
returns-then-not-is_done-clause-time g c =
    noted (written c.args.at c.args.bytes.now) c.args.self.now.history.events c.stop-then-not-is_done.new.self.history.events
    (ap (λ r. r.events) c.stop-then-not-is_done.ensures.history ∙ c.note_write.ensures)

pub returns-clause-time : goal.returns-clause-time
returns-clause-time g c = noted (written c.args.at c.args.bytes.now) c.args.self.now.history.events c.note_write.new.self.events c.note_write.ensures
