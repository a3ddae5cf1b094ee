use Rattle.std.proofs.Common.{◌+◌, ℕ, ap}
use Rattle.shard.proofs.Openings.{opened_kept, opened_shard}
use Rattle.shard.proofs.shard.Shard.open.Goals as goal

pub invariant_of-result : goal.invariant_of-result
invariant_of-result g c =
    let next = ap (λ (n : ℕ). n + 1) c.epoch-epoch.ensures in
    opened_kept g.D.Device.state g.D.Device.honest c.args.a c.args.b c.args.me c.in-Ok.journal c.in-Ok.memory c.in-Ok.ensures.ok c.in-Ok.ensures.fresh.0 c.in-Ok.ensures.honest.0.1 c.in-Ok.ensures.honest.1.1
    c.open_epoch.new.self c.new.result c.learned-settled.result (c.epoch-epoch.result + 1) next c.open_epoch.ensures c.new.ensures c.learned-settled.ensures c.in-Ok.ensures.fresh.2 c.requires.node

pub returns-in-Ok-clause-ok : goal.returns-in-Ok-clause-ok
returns-in-Ok-clause-ok g c = λ ha hb.
    opened_shard g.D.Device.state g.D.Device.honest c.args.a c.args.b c.args.me c.in-Ok.journal c.in-Ok.memory c.in-Ok.ensures.ok c.in-Ok.ensures.fresh.0 c.in-Ok.ensures.honest.0.1 c.in-Ok.ensures.honest.1.1
    c.in-Ok.ensures.fresh.1 ha hb (c.in-Ok.ensures.honest.0.0 ha) (c.in-Ok.ensures.honest.1.0 hb)
