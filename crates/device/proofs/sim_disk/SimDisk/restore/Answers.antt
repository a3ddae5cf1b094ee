use Rattle.std.proofs.Common.{true, length, sym, ap, arith}
use Rattle.std.proofs.lemmas.Bool.{false≢true}
use Rattle.device.specs.declared.call.Call.TheVariants.{Revive}
use Rattle.device.proofs.History.{kept_reads, kept_longest, reads_left_by, replayed_found}
use Rattle.device.proofs.sim_disk.SimDisk.restore.Goals as goal

pub invariant_of-self-2 : goal.invariant_of-self-2
invariant_of-self-2 c =
    let s = c.args.self.now in
    let finds = replayed_found s.first.items c.deref.result.now c.in_ok-content.content.items c.find.new.content.items s.history.items c.deref-2.result.now c.deref-3.result.now c.in_ok-content.since c.unwrap_or-tear.result
    c.deref.ensures.value c.deref-2.ensures.value c.deref-3.ensures.value c.in_ok-find.ensures c.in_ok-content.ensures in
    let reads = kept_reads s.first.items s.history.items c.push.new.self.items (Revive c.unwrap_or-tear.result) c.find.new.content.items true c.in_ok-push.ensures.items (λ ok. finds) (λ no. absurd (false≢true (sym no))) in
    let longest = kept_longest s.first.items s.history.items c.push.new.self.items (Revive c.unwrap_or-tear.result) c.find.new.content.items true c.in_ok-push.ensures.items (λ ok. omega (arith, ap length finds)) (λ no. absurd (false≢true (sym no))) in
    record { reads = reads; readable = reads_left_by s.first.items c.find.new.content.items c.push.new.self.items reads; longest = longest }
