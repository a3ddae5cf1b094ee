-- One more shard has settled, and there was room for it.
use Rattle.std.proofs.Common.{◌≡◌, ◌≤◌, ◌<◌, arith}
use Rattle.care_flow.proofs.Settling.{one_more_has_settled}
use Rattle.care_flow.proofs.gathering.Gathering.add.Goals as goal

pub invariant_of-self : goal.invariant_of-self
invariant_of-self c =
    let g = c.self.inside in
    let kept = c.self.invariant in
    let there : g.next < g.shards = rw (← c.self.view_is) at c.requires.there in
    let own : c.args.settled.shard ≡ g.next = rw (← c.self.view_is) at c.requires.own in
    let enough : g.place ≤ c.args.settled.place = rw (← c.self.view_is) at c.requires.enough in
    let push = c.push_reserved.ensures in
    (omega (arith, there), rw push.items (one_more_has_settled g.next g.place g.settled.items c.args.settled kept.1 own enough), omega (arith, push.len, kept.2), rw push.capacity kept.3)
