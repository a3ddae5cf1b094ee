use Rattle.std.proofs.Common.{◌≡◌, List, arith, subst}
use Rattle.tuples.specs.declared.tuple.Tuple.{Tuple}
use Rattle.tuples.specs.Reads.{IsSelection}
use Rattle.tuples.specs.Versions.{there_at}
use Rattle.versions.proofs.Alike.{selection_alike}
use Rattle.shard.specs.Shards.{memory}
use Rattle.shard.proofs.Kept.{memory_is}
use Rattle.shard.proofs.shard.Shard.read.Goals as goal

pub returns-in-Ok-clause-rows : goal.returns-in-Ok-clause-rows
returns-in-Ok-clause-rows g c = λ ts up is.
    let s = c.self.inside in
    let now = memory_is g.D.Device.state g.D.Device.honest s.journal _ s.memory s.unflushed s.settled c.self.invariant c.args.self.now c.self.view_is up in
    let same : c.in-Ok.tuples.items ≡ ts.items = cc in (
      omega (arith, now.learned, c.if-learned-place.false, c.learned.ensures),
      omega (arith, now.horizon, c.if-place-horizon.false, c.horizon.ensures),
      subst (λ (l : List Tuple). IsSelection (there_at (memory c.args.self.now).rows c.args.place) c.args.set.now l) same (selection_alike now.rows c.args.place c.args.set.now c.in-Ok.tuples.items c.in-Ok.ensures.rows),
    )
