use Rattle.std.proofs.Common.{ℕ, None, sym, subst}
use Rattle.coordinator.specs.Keeping.{IsKept}
use Rattle.coordinator.proofs.Kept.{kept_flushed}
use Rattle.coordinator.proofs.coordinator.Coordinator.flush.Goals as goal

pub invariant_of-self-2 : goal.invariant_of-self-2
invariant_of-self-2 g c =
    let s = c.self.inside in
    let f = c.in_ok-flush.ensures in
    subst (λ (h : ℕ). IsKept g.D.Device.state g.D.Device.honest c.flush.new.self c.rise.new.ledger s.epoch c.end-self-inside.result h None s.open_numbers.items s.given) (sym c.rise.ensures.horizon)
    (kept_flushed g.D.Device.state g.D.Device.honest s.journal c.flush.new.self s.ledger c.rise.new.ledger s.epoch s.kept s.horizon c.end-self-inside.result s.rising s.open_numbers.items s.given
    c.self.invariant c.rise.ensures.ledger c.end-self-inside.ensures.value c.end-self-inside.ensures.fits f.up.0 f.up.2 f.honest.0.1 f.honest.1.1 f.ok)
