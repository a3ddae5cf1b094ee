use Rattle.std.proofs.Common.{Err, ap, subst, refl}
use Rattle.refusal.specs.declared.refusal.Refusal.{Refusal}
use Rattle.records.specs.declared.record.Record.TheVariants.{Horizon}
use Rattle.journal.specs.Records.{HasNoRoom}
use Rattle.decisions.specs.Coordinators.{CoordinatorView}
use Rattle.coordinator.proofs.Calls.{raised_at, rising_at, raised_view, runs_on}
use Rattle.coordinator.proofs.Facts.{order_now, remembers_now, view_of}
use Rattle.coordinator.proofs.Kept.{kept_raised}
use Rattle.coordinator.proofs.Staged.{none_so_high, rising_there}
use Rattle.coordinator.proofs.coordinator.Coordinator.try_raise.Goals as goal

pub returns-in_err-stage_horizon-clause-full : goal.returns-in_err-stage_horizon-clause-full
returns-in_err-stage_horizon-clause-full g c = λ running is.
    let s = c.self.inside in
    let v = c.args.self.now in
    let order = order_now g.D.Device.state g.D.Device.honest s.journal s.me s.ledger s.epoch s.kept s.horizon s.rising s.open_numbers.items s.given c.self.invariant v c.self.view_is running in (
      subst (λ (w : CoordinatorView g.row.D.Denot). HasNoRoom w.staged (Horizon c.args.place)) c.self.view_is (c.in_err-stage_horizon.ensures.full (ap (λ (e : Refusal). Err e) c.in_err-stage_horizon.ensures.err.0)),
      none_so_high s.horizon s.kept v.staged s.rising c.args.place order.0 order.1 (c.if-rises_to.ensures.none refl),
    )

pub invariant_of-self-2 : goal.invariant_of-self-2
invariant_of-self-2 g c =
    let s = c.self.inside in
    kept_raised g.D.Device.state g.D.Device.honest s.journal c.stage_horizon.new.journal s.ledger s.ledger s.epoch s.kept s.horizon s.rising s.open_numbers.items s.open_numbers.items s.given c.self.invariant
    c.args.place c.in_ok-stage_horizon.ensures.ok c.if-place-self.false c.if-place-self-2.false (c.if-rises_to.ensures.none refl)

pub returns-clause-ok : goal.returns-clause-ok
returns-clause-ok g c = λ running.
    let s = c.self.inside in
    let v = c.args.self.now in
    let k = c.stage_horizon.new.journal in
    let r = remembers_now g.D.Device.state g.D.Device.honest s.journal s.me s.ledger s.epoch s.kept s.horizon s.rising s.open_numbers.items s.given c.self.invariant v c.self.view_is running in
    let order = order_now g.D.Device.state g.D.Device.honest s.journal s.me s.ledger s.epoch s.kept s.horizon s.rising s.open_numbers.items s.given c.self.invariant v c.self.view_is running in
    let lower = none_so_high s.horizon s.kept v.staged s.rising c.args.place order.0 order.1 (c.if-rises_to.ensures.none refl) in
    let both = raised_at v s.ledger s.epoch s.kept s.horizon s.rising r c.args.place (view_of k s.me s.epoch s.open_numbers.items s.given) running.up c.if-place-self.false c.if-place-self-2.false lower
    (raised_view g.D.Device.state g.D.Device.honest s.journal k s.me s.epoch s.open_numbers.items s.open_numbers.items s.given s.given v c.self.view_is c.args.place c.in_ok-stage_horizon.ensures.ok) in
    (both.0, both.1, runs_on g.D.Device.state g.D.Device.honest s.journal k s.me s.epoch s.open_numbers.items s.open_numbers.items s.given s.given v c.self.view_is _ c.in_ok-stage_horizon.ensures.ok running)

pub returns-then-rises_to-clause-ok : goal.returns-then-rises_to-clause-ok
returns-then-rises_to-clause-ok g c = λ running.
    let s = c.self.inside in
    let v = c.args.self.now in
    let r = remembers_now g.D.Device.state g.D.Device.honest s.journal s.me s.ledger s.epoch s.kept s.horizon s.rising s.open_numbers.items s.given c.self.invariant v c.self.view_is running in
    let order = order_now g.D.Device.state g.D.Device.honest s.journal s.me s.ledger s.epoch s.kept s.horizon s.rising s.open_numbers.items s.given c.self.invariant v c.self.view_is running in
    let high = c.if-rises_to.ensures.some refl in
    let both = rising_at v s.ledger s.epoch s.kept s.horizon s.rising r c.args.place running.up c.if-place-self.false c.if-place-self-2.false (high.0, rising_there v.staged s.rising high.0 order.1 high.1, high.2) in
    (both.0, both.1, running)
