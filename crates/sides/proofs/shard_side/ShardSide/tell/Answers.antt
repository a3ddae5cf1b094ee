use Rattle.std.proofs.Common.{sym, subst, ◌∙◌, arith}
use Rattle.sides.proofs.Words.{IsTiedIn, Side}
use Rattle.sides.proofs.ShardCalls.{later_is_tied}
use Rattle.sides.proofs.shard_side.ShardSide.tell.Goals as goal

pub returns-clause-tied : goal.returns-clause-tied
returns-clause-tied g c rests = let inv = c.self.invariant in let e = c.tell.ensures in
    subst (λ (v : Side g.row.D.Denot). IsTiedIn g.D.Device.state g.D.Device.honest g.B.Room.store g.B.Room.shards v.number v.node c.tell.new.pass) c.self.view_is
    (later_is_tied g.D.Device.state g.D.Device.honest g.B.Room.store g.B.Room.shards c.self.inside.me.node c.self.inside.node c.self.inside.pass c.tell.new.pass (inv.4 rests)
    (record { table = e.same ∙ c.pass.invariant ∙ sym inv.0; seen = e.told; horizon = omega (arith, e.horizon) }))
