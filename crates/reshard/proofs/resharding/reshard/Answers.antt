use Rattle.std.proofs.Common.{inl}
use Rattle.reshard.proofs.Founded.{opened_over}
use Rattle.reshard.proofs.resharding.reshard.Goals as goal

pub returns-in-Ok-clause-ok : goal.returns-in-Ok-clause-ok
returns-in-Ok-clause-ok g c =
    opened_over g.D.Device.state g.D.Device.honest g.D.Device.moment g.D.Device.left_since c.args.old.now c.carry_over.new.old c.args.shards c.store.result c.args.devices.items c.in-Ok.made.items c.open.result c.store.ensures c.in-Ok.ensures.ok c.open.ensures.ok

pub returns-in-Ok-clause-not_up : goal.returns-in-Ok-clause-not_up
returns-in-Ok-clause-not_up g c = λ e down. let bad = (c.in-Ok.ensures.not_up e down).0 in absurd cc

pub returns-in-Err-clause-err : goal.returns-in-Err-clause-err
returns-in-Err-clause-err g c = inl c.in-Err.ensures.err
