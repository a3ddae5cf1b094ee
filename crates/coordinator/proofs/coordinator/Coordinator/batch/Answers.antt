use Rattle.std.proofs.Common.{◌≤◌, ◌+◌, ◌-◌, ℕ, drop, take, ◌∙◌, sym, ap, arith}
use Rattle.decisions.specs.Values.{BatchValue}
use Rattle.decisions.specs.Coordinators.{kept_of}
use Rattle.coordinator.proofs.Facts.{copied_part, is_stretch, remembers_journal, remembers_now, running_now}
use Rattle.records.specs.Coordinators.{coordinator_state}
use Rattle.coordinator.proofs.coordinator.Coordinator.batch.Goals as goal

pub from_log-requires-clause-decided : goal.from_log-requires-clause-decided
from_log-requires-clause-decided g c = λ ha hb.
    let s = c.self.inside in
    let j = s.journal in
    let up = sym c.if-is_down.ensures in
    let r = remembers_journal g.D.Device.state g.D.Device.honest s.journal s.me s.ledger s.epoch s.kept s.horizon s.rising s.open_numbers.items s.given c.self.invariant c.args.self.now c.self.view_is (running_now g.D.Device.state g.D.Device.honest s.journal s.me s.ledger s.epoch s.kept s.horizon s.rising s.open_numbers.items s.given c.self.invariant c.args.self.now c.self.view_is up ha hb) in
    let m = c.min-count.ensures in
    let count = c.min-count.result in
    let q = c.requires in
    let t = c.if-to-self.false in
    let within : c.args.from + count ≤ s.kept = omega (arith, m, q, t) in (
      (c.self.invariant.backed up ha hb).rest,
      is_stretch (coordinator_state j.durable) _ s.ledger s.epoch s.kept s.horizon s.rising r c.args.from count c.if-from-self.false within c.in_ok-writes.writes.items c.in_ok-writes.ensures,
    )

pub returns-clause-ok : goal.returns-clause-ok
returns-clause-ok g c = λ running.
    let s = c.self.inside in
    let v = c.args.self.now in
    let r = remembers_now g.D.Device.state g.D.Device.honest s.journal s.me s.ledger s.epoch s.kept s.horizon s.rising s.open_numbers.items s.given c.self.invariant v c.self.view_is running in
    let m = c.min-count.ensures in
    let count = c.min-count.result in
    let q = c.requires in
    let t = c.if-to-self.false in
    let within : c.args.from + count ≤ s.kept = omega (arith, m, q, t) in
    let h = r.horizon_is in
    let k = r.kept_is in
    let above = c.if-from-self.false in
    let b = c.from_log.ensures in
    record {
      is_up = running.up;
      above = omega (arith, above, h);
      within = omega (arith, t, k);
      from_is = ap (λ (x : BatchValue). x.from) b;
      writes = ap (λ (x : BatchValue). x.writes) b ∙ c.in_ok-writes.ensures ∙ copied_part (kept_of v) _ s.ledger s.epoch s.kept s.horizon s.rising r c.args.from count above within
          ∙ ap (λ (n : ℕ). take n (drop (c.args.from - (kept_of v).base) (kept_of v).log)) m;
    }
