use Rattle.std.proofs.Common.{[], ℕ, None, sym, subst}
use Rattle.coordinator.specs.Keeping.{IsKept, newest_first}
use Rattle.coordinator.proofs.Checkpointed.{kept_checkpointed, point_checked, point_moments}
use Rattle.coordinator.proofs.coordinator.Coordinator.checkpoint.Goals as goal

pub invariant_of-self : goal.invariant_of-self
invariant_of-self g c =
    let s = c.self.inside in
    let e = c.in-Ok.ensures in
    subst (λ (h : ℕ). IsKept g.D.Device.state g.D.Device.honest c.write.new.journal c.rise.new.ledger s.epoch c.end-self-inside.result h None s.open_numbers.items s.given) (sym c.rise.ensures.horizon)
    (kept_checkpointed g.D.Device.state g.D.Device.honest s.journal c.write.new.journal s.me s.ledger c.rise.new.ledger s.epoch s.kept s.horizon c.end-self-inside.result s.rising s.open_numbers.items s.given
    c.self.invariant c.risen-horizon.result c.risen-horizon.ensures c.rise.ensures.ledger c.end-self-inside.ensures.value c.end-self-inside.ensures.fits e.up.0 e.up.2 e.honest.0.1 e.honest.1.1 e.ok)

pub returns-in-Ok-clause-any_moment : goal.returns-in-Ok-clause-any_moment
returns-in-Ok-clause-any_moment g c =
    let s = c.self.inside in
    point_moments g.D.Device.state g.D.Device.honest s.journal c.write.new.journal s.me s.ledger s.ledger s.epoch s.kept s.horizon s.kept s.rising s.open_numbers.items s.given
    c.self.invariant c.risen-horizon.result c.risen-horizon.ensures (newest_first s.epoch s.open_numbers.items []) g.D.Device.moment g.D.Device.left_since c.args.self.now c.self.view_is c.write.ensures.any_moment

pub returns-in-Ok-clause-ok : goal.returns-in-Ok-clause-ok
returns-in-Ok-clause-ok g c = λ run.
    let s = c.self.inside in
    let e = c.in-Ok.ensures in
    let new = point_checked g.D.Device.state g.D.Device.honest s.journal c.write.new.journal s.me s.ledger s.ledger s.epoch s.kept s.horizon s.kept s.rising s.open_numbers.items s.given
    c.self.invariant c.risen-horizon.result c.risen-horizon.ensures (newest_first s.epoch s.open_numbers.items []) c.args.self.now c.self.view_is e.honest.0.0 e.honest.1.0 e.up.1 e.ok run in
    (new.0, new.1, e.up.2, e.up.1)

pub returns-in-Err-clause-any_moment : goal.returns-in-Err-clause-any_moment
returns-in-Err-clause-any_moment g c =
    let s = c.self.inside in
    point_moments g.D.Device.state g.D.Device.honest s.journal c.write.new.journal s.me s.ledger s.ledger s.epoch s.kept s.horizon s.kept s.rising s.open_numbers.items s.given
    c.self.invariant c.risen-horizon.result c.risen-horizon.ensures (newest_first s.epoch s.open_numbers.items []) g.D.Device.moment g.D.Device.left_since c.args.self.now c.self.view_is c.write.ensures.any_moment
