use Rattle.std.proofs.Common.{◌≡◌, ◌∙◌, true, rules, arith, sym, ap, subst, length, List, ℕ}
use Rattle.std.proofs.lemmas.Bool.{false≢true}
use Rattle.std.specs.Result.{is_ok}
use Rattle.device.specs.Sim.{Image, NoneLonger, after, overwritten}
use Rattle.device.specs.declared.call.Call.{Call}
use Rattle.device.specs.declared.call.Call.TheVariants.{Write}
use Rattle.device.proofs.History.{kept_reads, kept_longest, write_reads, write_longest, reads_left_by}
use Rattle.device.proofs.sim_disk.SimDisk.store.Goals as goal

pub invariant_of-self-2 : goal.invariant_of-self-2
invariant_of-self-2 c =
    let s = c.args.self.now in
    let kept = c.in_ok-kept.kept in
    let same : kept.items ≡ c.args.bytes.now = search rules in
    let is_pushed : is_ok c.push.result ≡ true = c.push.ensures.succeeds (omega (arith, c.in_ok-reserve.ensures.ok)) in
    let reads = kept_reads s.first.items c.reserve.new.self.items c.push.new.self.items (Write c.args.at kept) c.patch.new.content.items (is_ok c.push.result) c.push.ensures.items
    (λ ok. c.in_ok-patch.ensures ∙ write_reads s.first.items s.seen.items c.args.bytes.now s.history.items c.reserve.new.self.items c.args.at (Write c.args.at kept) s.reads c.reserve.ensures.items (λ m. ap (λ (b : List ℕ). overwritten c.args.at b m) same))
    (λ no. absurd (false≢true (sym no ∙ is_pushed))) in
    let writes : (m : Image) → after (Write c.args.at kept) m ≡ overwritten c.args.at c.args.bytes.now m = λ m. ap (λ (b : List ℕ). overwritten c.args.at b m) same in
    let longest = kept_longest s.first.items c.reserve.new.self.items c.push.new.self.items (Write c.args.at kept) c.patch.new.content.items (is_ok c.push.result) c.push.ensures.items
    (λ ok. omega (arith, ap length c.in_ok-patch.ensures, write_longest s.first.items s.seen.items c.args.bytes.now c.reserve.new.self.items c.args.at (Write c.args.at kept) c.requires (subst (λ (l : List Call). NoneLonger s.first.items l s.seen.items) (sym c.reserve.ensures.items) s.longest) writes))
    (λ no. absurd (false≢true (sym no ∙ is_pushed))) in
    record { reads = reads; readable = reads_left_by s.first.items c.patch.new.content.items c.push.new.self.items reads; longest = longest }
