use Rattle.std.proofs.Common.{sym, ◌∙◌, arith}
use Rattle.sides.proofs.ShardCalls.{later_is_tied}
use Rattle.sides.proofs.shard_side.ShardSide.share.Goals as goal

pub invariant_of-self : goal.invariant_of-self
invariant_of-self g c = let inv = c.self.invariant in let e = c.share.ensures in (
  e.same.0 ∙ inv.0,
  inv.1,
  inv.2,
  inv.3,
  λ rests. later_is_tied g.D.Device.state g.D.Device.honest g.B.Room.store g.B.Room.shards c.self.inside.me.node c.self.inside.node c.self.inside.pass c.share.new.self (inv.4 rests)
      (record { table = e.same.0; seen = e.one.0; horizon = omega (arith, e.horizon.0) }),
)

pub returns-clause-tied : goal.returns-clause-tied
returns-clause-tied g c rests = let inv = c.self.invariant in let e = c.share.ensures in
    later_is_tied g.D.Device.state g.D.Device.honest g.B.Room.store g.B.Room.shards c.self.inside.me.node c.self.inside.node c.self.inside.pass c.share.new.pass (inv.4 rests)
    (record { table = e.same.1 ∙ c.pass.invariant ∙ sym inv.0; seen = e.other.0; horizon = omega (arith, e.horizon.1) })
