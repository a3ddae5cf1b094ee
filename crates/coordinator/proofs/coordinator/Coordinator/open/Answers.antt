use Rattle.std.proofs.Common.{◌+◌, ℕ, ap, arith}
use Rattle.coordinator.proofs.Openings.{opened_kept}
use Rattle.coordinator.proofs.coordinator.Coordinator.open.Goals as goal

pub invariant_of-result : goal.invariant_of-result
invariant_of-result g c =
    let next = ap (λ (n : ℕ). n + 1) c.epoch-epoch.ensures.value in
    opened_kept g.D.Device.state g.D.Device.honest c.args.a c.args.b c.args.me c.in-Ok.journal c.in-Ok.recovery c.in-Ok.ensures.ok c.requires.coordinator c.in-Ok.ensures.fresh.0 c.in-Ok.ensures.honest.0.1 c.in-Ok.ensures.honest.1.1
    c.into_ledger.result (c.epoch-epoch.result + 1) c.end-kept.result c.horizon-horizon.result c.into_ledger.ensures.behind c.into_ledger.ensures.value next c.end-kept.ensures.value c.end-kept.ensures.fits c.horizon-horizon.ensures.value
    (let v = c.horizon-horizon.ensures.value in let w = c.horizon-horizon.ensures.within in omega (arith, v, w)) c.new.result.items c.new.ensures.items

pub returns-in-Ok-clause-ok : goal.returns-in-Ok-clause-ok
returns-in-Ok-clause-ok g c = λ ha hb.
    let opened = c.in-Ok.ensures.ok in
    let still = c.in-Ok.ensures.honest in
    record { rs = opened.rs; was = opened.was ha hb; image = opened.image; durable = opened.durable ha hb; running = record { honest_a = still.0.0 ha; honest_b = still.1.0 hb; up = c.in-Ok.ensures.fresh.1; rest = opened.rest ha hb } }
