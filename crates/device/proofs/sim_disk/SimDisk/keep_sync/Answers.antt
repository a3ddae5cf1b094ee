use Rattle.std.proofs.Common.{length, ap, arith}
use Rattle.std.specs.Result.{is_ok}
use Rattle.device.specs.declared.call.Call.TheVariants.{Sync}
use Rattle.device.proofs.History.{kept_reads, kept_longest, reads_left_by}
use Rattle.device.proofs.sim_disk.SimDisk.keep_sync.Goals as goal

pub invariant_of-self : goal.invariant_of-self
invariant_of-self c =
    let s = c.args.self.now in
    let reads = kept_reads s.first.items s.history.items c.push.new.self.items Sync s.seen.items (is_ok c.push.result) c.push.ensures.items (λ ok. s.reads) (λ ok. s.reads) in
    let longest = kept_longest s.first.items s.history.items c.push.new.self.items Sync s.seen.items (is_ok c.push.result) c.push.ensures.items (λ ok. omega (arith, ap length s.reads)) (λ no. s.longest) in
    record { reads = reads; readable = reads_left_by s.first.items s.seen.items c.push.new.self.items reads; longest = longest }
