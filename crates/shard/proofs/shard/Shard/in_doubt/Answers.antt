use Rattle.std.proofs.Common.{◌↔◌, List, subst, Contains}
use Rattle.tuples.specs.declared.entry.Entry.{Entry}
use Rattle.tuples.specs.declared.entry.WriteId.{WriteId}
use Rattle.shard.specs.Shards.{AreAscendingIds, ids}
use Rattle.shard.proofs.Kept.{memory_is}
use Rattle.shard.proofs.shard.Shard.in_doubt.Goals as goal

pub returns-in-Ok-clause-ok : goal.returns-in-Ok-clause-ok
returns-in-Ok-clause-ok g c = λ up.
    let s = c.self.inside in
    let now = memory_is g.D.Device.state g.D.Device.honest s.journal _ s.memory s.unflushed s.settled c.self.invariant c.args.self.now c.self.view_is up in
    subst (λ (ws : List Entry). AreAscendingIds c.in-Ok.ids.items × ((id : WriteId) → Contains c.in-Ok.ids.items id ↔ Contains (ids ws) id)) now.in_doubt (c.in-Ok.ensures.ascending, λ id. subst (λ (l : List WriteId). Contains c.in-Ok.ids.items id ↔ Contains l id) c.in-Ok.ensures.exact (λ has. has, λ has. has))
