use Rattle.versions.proofs.Alike.{rows_alike}
use Rattle.shard.proofs.Kept.{memory_is}
use Rattle.shard.proofs.shard.Shard.rows.Goals as goal

pub returns-in-Ok-clause-ok : goal.returns-in-Ok-clause-ok
returns-in-Ok-clause-ok g c = λ up.
    let s = c.self.inside in
    let now = memory_is g.D.Device.state g.D.Device.honest s.journal _ s.memory s.unflushed s.settled c.self.invariant c.args.self.now c.self.view_is up in
    rows_alike now.rows c.in-Ok.ensures
