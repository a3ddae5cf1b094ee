use Rattle.std.proofs.Common.{subst}
use Rattle.sides.proofs.Words.{Identity, RestartedIn}
use Rattle.sides.proofs.Openings.{restart_stays}
use Rattle.sides.proofs.Sound.{shard_restarts_there}
use Rattle.sides.proofs.shard_side.ShardSide.restart.Goals as goal

pub invariant_of-self : goal.invariant_of-self
invariant_of-self g c =
    let inv = c.self.invariant in
    let over = subst (λ (me : Identity). RestartedIn g.D.Device.state g.D.Device.honest g.D.Device.moment g.D.Device.left_since me c.self.inside.node c.restart_shard.result c.restart_shard.new.node) inv.1 c.restart_shard.ensures in
    (inv.0, inv.1, inv.2, shard_restarts_there g.D.Device.state g.D.Device.honest g.D.Device.moment g.D.Device.left_since g.B.Room.store g.B.Room.shards c.self.inside.me.node c.self.inside.node c.restart_shard.new.node c.restart_shard.result over, λ rests. restart_stays g.D.Device.state g.D.Device.honest g.D.Device.moment g.D.Device.left_since g.met.D.Device.counts_now g.B.Room.store g.B.Room.shards c.self.inside.me.node c.self.inside.node c.restart_shard.new.node c.restart_shard.result c.self.inside.pass (inv.4 rests) over)
